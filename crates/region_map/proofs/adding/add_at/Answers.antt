use Rattle.std.proofs.Common.{List, refl}
use Rattle.paging_model.specs.declared.spaces.Region.{Region}
use Rattle.region_map.specs.Places.{JoinsNext, JoinsPrevious}
use Rattle.region_map.proofs.AddedRegions.{yes, no, added-apart, added-between, added-next, added-previous}
use Rattle.region_map.proofs.adding.add_at.Goals as goal

pub returns-in-true-true-clause-ok : goal.returns-in-true-true-clause-ok
returns-in-true-true-clause-ok c =
    let previous = yes (λ (it : List Region). JoinsPrevious it c.args.place c.args.region) c.as_slice.ensures.value refl c.in-true-true.ensures in
    let next = yes (λ (it : List Region). JoinsNext it c.args.place c.args.region) c.as_slice-2.ensures.value refl c.in-true-true.ensures' in
    added-between c.args.items.now.items c.args.place c.args.region c.requires.coalesced c.requires.range c.requires.unmapped c.requires.place
    _ _ _ c.index_mut.ensures.value c.index.ensures previous next c.remove.ensures.items

pub returns-in-true-false-clause-ok : goal.returns-in-true-false-clause-ok
returns-in-true-false-clause-ok c =
    let previous = yes (λ (it : List Region). JoinsPrevious it c.args.place c.args.region) c.as_slice.ensures.value refl c.in-true-false.ensures in
    let not_next = no (λ (it : List Region). JoinsNext it c.args.place c.args.region) c.as_slice-2.ensures.value refl c.in-true-false.ensures' in
    added-previous c.args.items.now.items c.args.place c.args.region c.requires.coalesced c.requires.range c.requires.unmapped c.requires.place
    _ c.index_mut-in-true-false.ensures.value previous not_next

pub returns-in-false-true-clause-ok : goal.returns-in-false-true-clause-ok
returns-in-false-true-clause-ok c =
    let not = no (λ (it : List Region). JoinsPrevious it c.args.place c.args.region) c.as_slice.ensures.value refl c.in-false-true.ensures in
    let next = yes (λ (it : List Region). JoinsNext it c.args.place c.args.region) c.as_slice-2.ensures.value refl c.in-false-true.ensures' in
    added-next c.args.items.now.items c.args.place c.args.region c.requires.coalesced c.requires.range c.requires.unmapped c.requires.place
    _ c.index-in-false-true.ensures not next

pub returns-in_ok-insert-in-false-false-clause-ok : goal.returns-in_ok-insert-in-false-false-clause-ok
returns-in_ok-insert-in-false-false-clause-ok c =
    let not = no (λ (it : List Region). JoinsPrevious it c.args.place c.args.region) c.as_slice.ensures.value refl c.in-false-false.ensures in
    let not_next = no (λ (it : List Region). JoinsNext it c.args.place c.args.region) c.as_slice-2.ensures.value refl c.in-false-false.ensures' in
    added-apart c.args.items.now.items c.args.place c.args.region c.requires.coalesced c.requires.range c.requires.unmapped c.requires.place
    _ not not_next c.in_ok-insert-in-false-false.ensures.items
