use Rattle.std.proofs.Common.{◌/◌, ◌∙◌, ap}
use Rattle.std.proofs.lemmas.Result.{IfOk-weaker}
use Rattle.std.specs.BTreeMap.{is_at}
use Rattle.std.specs.Map.{lookup}
use Rattle.std.specs.Ordering.{nat_cmp}
use Rattle.version_store.specs.Changes.{changed_in}
use Rattle.version_store.proofs.Frames.{lent-or_none}
use Rattle.version_store.proofs.store.Store.changed_under.Goals as goal

pub returns : goal.returns
returns c =
    IfOk-weaker c.slots_in.result _ _
    (λ slots is. is ∙ ap (λ changes. changed_in changes c.args.frame) (lent-or_none c.args.self.now (c.args.frame / 4096) c.get.result _ c.unwrap_or-changes.result (c.get.ensures.value ∙ ap (lookup (is_at (nat_cmp (c.args.frame / 4096)))) c.self.view_is) c.new-none.ensures c.unwrap_or-changes.ensures)) c.slots_in.ensures
