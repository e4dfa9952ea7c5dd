use Rattle.std.proofs.Common.{ℕ, ◌≡◌, rules, Option, None, Some, IsSome, sym, ap, ◌∙◌, subst, arith}
use Rattle.std.specs.Prelude.{option_copied}
use Rattle.std.specs.Option.{option_copied_mut}
use Rattle.std.specs.BTreeMap.{get}
use Rattle.slab.specs.Slab.{with_value}
use Rattle.slab.proofs.SlabLemmas.{Updates-with_value}
use Rattle.frame_index.specs.CountedUses.{with_pages}
use Rattle.frame_index.specs.Records.{AreFiled, place_cmp, record_in}
use Rattle.frame_index.specs.declared.counted_use.CountedUse.{CountedUse}
use Rattle.frame_index.proofs.FiledRecords.{is_at_place, filed_recounted, none_from_free, own_slots, pages_within}
use Rattle.frame_index.proofs.Slots.{is_recounted, not_recounted}
use Rattle.frame_index.proofs.records.Records.recount.Goals as goal

pub overflow_sub-self : goal.overflow_sub-self
overflow_sub-self c =
    let within = pages_within _ _ _ _ c.requires.filed c.in-Some.slot.now c.in-Some-get_mut.one.now (sym c.in-Some-get_mut.ensures.value) in
    omega (arith, within, c.from-in-Some-get_mut.ensures)

pub returns-in-Some-get_mut-clause-filed : goal.returns-in-Some-get_mut-clause-filed
returns-in-Some-get_mut-clause-filed c =
    let old = c.args.self.now.slab in
    let slot = c.in-Some.slot.now in
    let was = c.in-Some-get_mut.one.now in
    let is_was : record_in old.slots slot ≡ Some was = sym c.in-Some-get_mut.ensures.value in
    subst (λ (pages : ℕ). AreFiled (with_value old slot (with_pages c.args.pages was)).slots c.args.self.now.places c.args.self.now.frames pages)
    (omega (arith, c.from.ensures, c.from-in-Some-get_mut.ensures))
    (filed_recounted old (with_value old slot (with_pages c.args.pages was)) slot
    c.args.self.now.places c.args.self.now.frames c.args.self.now.pages c.requires.filed was c.args.pages is_was
    (Updates-with_value old slot (with_pages c.args.pages was) (subst (λ (o : Option CountedUse). IsSome o) (sym is_was) (search rules))))

pub returns-in-Some-get_mut-clause-with_pages : goal.returns-in-Some-get_mut-clause-with_pages
returns-in-Some-get_mut-clause-with_pages c =
    let old = c.args.self.now.slab in
    let slot = c.in-Some.slot.now in
    let was = c.in-Some-get_mut.one.now in
    let is_was : record_in old.slots slot ≡ Some was = sym c.in-Some-get_mut.ensures.value in
    let found : get place_cmp c.args.self.now.places (c.args.level, c.args.prefix) ≡ Some slot = sym c.get.ensures.value ∙ ap option_copied c.in-Some.is in
    is_recounted old (with_value old slot (with_pages c.args.pages was)) slot c.args.level c.args.prefix c.args.pages was
    (own_slots _ _ _ _ c.requires.filed) is_was
    (is_at_place _ _ _ _ c.requires.filed c.args.level c.args.prefix slot was found is_was)
    (Updates-with_value old slot (with_pages c.args.pages was) (subst (λ (o : Option CountedUse). IsSome o) (sym is_was) (search rules)))

pub returns-in_default-get_mut-clause-with_pages : goal.returns-in_default-get_mut-clause-with_pages
returns-in_default-get_mut-clause-with_pages c =
    let slot = c.in-Some.slot.now in
    let found : get place_cmp c.args.self.now.places (c.args.level, c.args.prefix) ≡ Some slot = sym c.get.ensures.value ∙ ap option_copied c.in-Some.is in
    let one = c.requires.filed.by_place.has (c.args.level, c.args.prefix) slot found in
    let is_none : record_in c.args.self.now.slab.slots slot ≡ None = sym c.get_mut.ensures.value ∙ ap option_copied_mut c.in_default-get_mut.is in
    let is_one = one.1 in
    absurd (cc)

pub returns-in_default-clause-with_pages : goal.returns-in_default-clause-with_pages
returns-in_default-clause-with_pages c =
    not_recounted _ _ _ _
    (none_from_free _ _ _ _ c.requires.filed c.args.level c.args.prefix (sym c.get.ensures.value ∙ ap option_copied c.in_default.is))
