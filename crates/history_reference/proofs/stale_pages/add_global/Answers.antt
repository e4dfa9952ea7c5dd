use Rattle.std.proofs.Common.{◌≡◌, ◌⊎◌, ◌↔◌, List, ap, ◌∙◌, subst}
use Rattle.std.specs.Prelude.{filter}
use Rattle.std.proofs.lemmas.Result.{on_ok_weaker}
use Rattle.paging_model.specs.Counting.{IsIn}
use Rattle.history_reference.specs.CacheEntries.{HeldEntry}
use Rattle.history_reference.specs.Moments.{history_of}
use Rattle.history_reference.proofs.Usable.{is_global_leaf, added_global}
use Rattle.history_reference.proofs.stale_pages.add_global.Goals as goal

pub returns : goal.returns
returns c =
    let all : c.deref-2.result.now ≡ filter is_global_leaf c.in_ok-held.held.items =
    c.deref-2.ensures.value ∙ (c.in_ok-global.ensures ∙ ap (filter is_global_leaf) c.deref.ensures.value) in
    on_ok_weaker c.add_entries.result
    (λ later entry.
    added_global (history_of c.args.moment.now) c.args.cpu c.args.under c.args.page c.in_ok-held.held.items c.in_ok-held.ensures entry
    (subst (λ (made : List HeldEntry). IsIn entry c.add_entries.new.list.items ↔ (IsIn entry c.args.list.now.items ⊎ IsIn entry made)) all (later entry)))
    c.add_entries.ensures
