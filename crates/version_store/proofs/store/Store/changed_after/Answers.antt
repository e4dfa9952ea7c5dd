use Rattle.std.proofs.Common.{◌≡◌, ◌*◌, ◌/◌, List, [], Option, None, sym, ap, ◌∙◌}
use Rattle.std.specs.BTreeMap.{is_at}
use Rattle.std.specs.Map.{lookup}
use Rattle.std.specs.Ordering.{nat_cmp}
use Rattle.std.specs.Prelude.{option_copied, unwrap_or}
use Rattle.version_store.specs.Changes.{is_changed_after}
use Rattle.version_store.specs.declared.change.Change.{Change}
use Rattle.version_store.proofs.store.Store.changed_after.Goals as goal

pub returns-in-None-clause-value : goal.returns-in-None-clause-value
returns-in-None-clause-value c = λ i below.
    let none : lookup (is_at (nat_cmp (c.args.frame / 4096))) c.args.self.now ≡ None =
    sym (ap (lookup (is_at (nat_cmp (c.args.frame / 4096)))) c.self.view_is) ∙ (sym c.get.ensures.value ∙ ap option_copied c.in-None.is) in
    c.none.ensures.value i below
    ∙ sym (ap (λ (found : Option (List Change)). is_changed_after (unwrap_or found []) (8 * i) c.args.time) none)
