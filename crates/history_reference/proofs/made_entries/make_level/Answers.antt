use Rattle.std.proofs.Common.{◌≡◌, ◌↔◌, ◌⊎◌, List, ap, ◌∙◌, subst}
use Rattle.std.specs.List.{filter_map}
use Rattle.std.proofs.lemmas.Result.{on_ok_weaker}
use Rattle.paging_model.specs.Counting.{IsIn}
use Rattle.history_reference.specs.CacheEntries.{HeldEntry}
use Rattle.history_reference.specs.HeldLists.{made_below}
use Rattle.history_reference.specs.Moments.{history_of}
use Rattle.history_reference.proofs.MadeLists.{made_of_others, made_of_all}
use Rattle.history_reference.proofs.made_entries.make_level.Goals as goal

pub returns-in_default : goal.returns-in_default
returns-in_default c entry =
    let make = made_below (history_of c.args.moment.now) c.args.known.now c.args.level c.args.address in
    let made : c.deref-2.result.now ≡ filter_map make c.args.list.now.items =
    c.deref-2.ensures.value ∙ (c.in_ok-made.ensures ∙ ap (filter_map make) c.deref.ensures.value) in
    made_of_others (history_of c.args.moment.now) c.args.known.now c.args.level c.args.address c.args.list.now.items entry c.in_default.ensures
    (subst (λ (all : List HeldEntry). IsIn entry c.add_entries.new.list.items ↔ (IsIn entry c.args.list.now.items ⊎ IsIn entry all))
    made (c.in_ok-add_entries.ensures entry))

pub returns : goal.returns
returns c =
    let make = made_below (history_of c.args.moment.now) c.args.known.now c.args.level c.args.address in
    let made : c.deref-2.result.now ≡ filter_map make c.args.list.now.items =
    c.deref-2.ensures.value ∙ (c.in_ok-made.ensures ∙ ap (filter_map make) c.deref.ensures.value) in
    on_ok_weaker c.add_entry.result
    (λ later entry.
    made_of_all (history_of c.args.moment.now) c.args.known.now c.args.level c.args.address c.args.list.now.items entry c.in-Some.entry c.in-Some.ensures
    (subst (λ (all : List HeldEntry). IsIn entry c.add_entries.new.list.items ↔ (IsIn entry c.args.list.now.items ⊎ IsIn entry all))
    made (c.in_ok-add_entries.ensures entry))
    (later entry))
    c.add_entry.ensures
