-- Kept records, after each kind of change.
use Rattle.std.proofs.Common.{◌≡◌, ℕ, ◌+◌, ◌-◌, ◌≤◌, ◌⊎◌, inl, inr, List, Option, None, Some, refl, sym, ap, ◌∙◌, subst, arith}
use Rattle.std.proofs.lemmas.Bool.{cases_eq}
use Rattle.std.specs.BTreeMap.{BTreeMap, get}
use Rattle.slab.specs.Slab.{Slab, Updates}
use Rattle.paging_model.specs.Counting.{IsIn}
use Rattle.frame_index.specs.CountedUses.{IsAt, IsFound, NoneAt, with_pages}
use Rattle.frame_index.specs.Records.{AreFiled, FitsPlace, PutsSlot, frame_cmp, frame_place_of, place_cmp, place_of, record_in, records_in}
use Rattle.frame_index.specs.declared.counted_use.CountedUse.{CountedUse}
use Rattle.frame_index.proofs.Leading.{leads_added, leads_removed, leads_replaced}
use Rattle.frame_index.proofs.Orders.{frame_exact, frame_total, place_exact, place_total}
use Rattle.frame_index.proofs.Slots.{HaveOwnSlots, each_from_none_at, is_in_from_slot, pages_changed, pages_of_slot, slot_from_is_in}

pub option_cases : (o : Option ℕ) → (o ≡ None) ⊎ ((n : ℕ) × (o ≡ Some n))
option_cases None = inl refl
option_cases (Some n) = inr (n, refl)

module _ (slots : List (Option CountedUse)) (places : BTreeMap (ℕ × ℕ) ℕ) (frames : BTreeMap (ℕ × (ℕ × ℕ)) ℕ) (pages : ℕ) (filed : AreFiled slots places frames pages) where
  pub own_slots : HaveOwnSlots slots
  own_slots = record {
    same = λ i j x y is_x is_y at.
        let to_x = filed.by_place.leads i x is_x in
        let to_y = filed.by_place.leads j y is_y in
        let place : place_of x ≡ place_of y = λ n. (at.0 n, at.1 n) in
        let both = ap (get place_cmp places) place in
        cc;
  }

  pub free_place : (level prefix : ℕ) → ((one : CountedUse) → IsIn one (records_in slots) → IsAt level prefix one → ⊥) → get place_cmp places (level, prefix) ≡ None
  free_place level prefix none = elim (option_cases (get place_cmp places (level, prefix))) [
    | inl is ↦ is
    | inr found ↦
        let one = filed.by_place.has (level, prefix) found.0 found.1 in
        absurd (none one.0 (is_in_from_slot slots found.0 one.0 one.1) (ap (λ (p : ℕ × ℕ). p.0) one.2, ap (λ (p : ℕ × ℕ). p.1) one.2))
  ]

  pub none_from_free : (level prefix : ℕ) → get place_cmp places (level, prefix) ≡ None → (one : CountedUse) → IsIn one (records_in slots) → IsAt level prefix one → ⊥
  none_from_free level prefix free one is at =
      let found = slot_from_is_in slots one is in
      let leads = filed.by_place.leads found.0 one found.1 in
      let place : place_of one ≡ (level, prefix) = λ n. (at.0 n, at.1 n) in
      let both = ap (get place_cmp places) place in
      cc

  pub free_frame : (item : CountedUse) → FitsPlace item → NoneAt item.table.level item.table.prefix (records_in slots) → get frame_cmp frames (frame_place_of item) ≡ None
  free_frame item byte none = elim (option_cases (get frame_cmp frames (frame_place_of item))) [
    | inl is ↦ is
    | inr found ↦
        let one = filed.by_frame.has (frame_place_of item) found.0 found.1 in
        let bound = (filed.fits found.0 one.0 one.1).0 in
        let level = byte.0 in
        let lower = ap (λ (p : ℕ × (ℕ × ℕ)). p.1.0) one.2 in
        absurd (each_from_none_at item.table.level item.table.prefix (records_in slots) none one.0
        (is_in_from_slot slots found.0 one.0 one.1)
        (omega (arith, bound, lower, level), ap (λ (p : ℕ × (ℕ × ℕ)). p.1.1) one.2))
  ]

  -- what a look-up finds
  pub found_at : (level prefix slot : ℕ) → get place_cmp places (level, prefix) ≡ Some slot → IsFound level prefix (records_in slots) (record_in slots slot)
  found_at level prefix slot found =
      let one = filed.by_place.has (level, prefix) slot found in
      subst (λ (o : Option CountedUse). IsFound level prefix (records_in slots) o) (sym one.1)
      (is_in_from_slot slots slot one.0 one.1, (ap (λ (p : ℕ × ℕ). p.0) one.2, ap (λ (p : ℕ × ℕ). p.1) one.2))

  pub is_at_place : (level prefix slot : ℕ) (was : CountedUse) → get place_cmp places (level, prefix) ≡ Some slot → record_in slots slot ≡ Some was → IsAt level prefix was
  is_at_place level prefix slot was found is_was =
      let one = filed.by_place.has (level, prefix) slot found in
      let is_one = one.1 in
      let same : one.0 ≡ was = cc in
      subst (λ (x : CountedUse). IsAt level prefix x) same (ap (λ (p : ℕ × ℕ). p.0) one.2, ap (λ (p : ℕ × ℕ). p.1) one.2)

  -- a record counts no more pages than all together
  pub pages_within : (slot : ℕ) (was : CountedUse) → record_in slots slot ≡ Some was → was.pages ≤ pages
  pages_within slot was is_was = omega (arith, filed.counted, pages_of_slot slots slot was is_was)

module _ (old new : Slab CountedUse) (slot : ℕ) (places : BTreeMap (ℕ × ℕ) ℕ) (frames : BTreeMap (ℕ × (ℕ × ℕ)) ℕ) (pages : ℕ) (filed : AreFiled old.slots places frames pages) where
  fits_after : (value : Option CountedUse) → Updates old new slot value → ((item : CountedUse) → value ≡ Some item → FitsPlace item) → (i : ℕ) (one : CountedUse) → record_in new.slots i ≡ Some one → FitsPlace one
  fits_after value updates byte i one is = elim (cases_eq i slot) [
    | inl same ↦ byte one (sym updates.changed ∙ ap (record_in new.slots) (sym same) ∙ is)
    | inr differs ↦ filed.fits i one (sym (updates.others i differs) ∙ is)
  ]

  pub filed_added : (item : CountedUse) (later_places : BTreeMap (ℕ × ℕ) ℕ) (later_frames : BTreeMap (ℕ × (ℕ × ℕ)) ℕ) → FitsPlace item → NoneAt item.table.level item.table.prefix (records_in old.slots) → record_in old.slots slot ≡ None → Updates old new slot (Some item) → PutsSlot place_cmp places later_places (place_of item) (Some slot) → PutsSlot frame_cmp frames later_frames (frame_place_of item) (Some slot) → AreFiled new.slots later_places later_frames (pages + item.pages)
  filed_added item later_places later_frames byte none vacant updates puts_place puts_frame = record {
    by_place = leads_added place_cmp place_total place_exact place_of old new slot places filed.by_place item later_places vacant updates
        (free_place old.slots places frames pages filed item.table.level item.table.prefix (each_from_none_at item.table.level item.table.prefix (records_in old.slots) none)) puts_place;
    by_frame = leads_added frame_cmp frame_total frame_exact frame_place_of old new slot frames filed.by_frame item later_frames vacant updates
        (free_frame old.slots places frames pages filed item byte none) puts_frame;
    fits = fits_after (Some item) updates (λ one same. let e : item ≡ one = cc in subst (λ (x : CountedUse). FitsPlace x) e byte);
    counted = let none_before = vacant in omega (arith, filed.counted, pages_changed old new slot (Some item) updates, simp none_before at (pages_changed old new slot (Some item) updates));
  }

  pub filed_removed : (item : CountedUse) (later_places : BTreeMap (ℕ × ℕ) ℕ) (later_frames : BTreeMap (ℕ × (ℕ × ℕ)) ℕ) → record_in old.slots slot ≡ Some item → Updates old new slot None → PutsSlot place_cmp places later_places (place_of item) None → PutsSlot frame_cmp frames later_frames (frame_place_of item) None → AreFiled new.slots later_places later_frames (pages - item.pages)
  filed_removed item later_places later_frames was updates puts_place puts_frame = record {
    by_place = leads_removed place_cmp place_total place_exact place_of old new slot places filed.by_place item later_places was updates puts_place;
    by_frame = leads_removed frame_cmp frame_total frame_exact frame_place_of old new slot frames filed.by_frame item later_frames was updates puts_frame;
    fits = fits_after None updates (λ one same. absurd (cc));
    counted = omega (arith, filed.counted, simp was at (pages_changed old new slot None updates));
  }

  pub filed_recounted : (was : CountedUse) (count : ℕ) → record_in old.slots slot ≡ Some was → Updates old new slot (Some (with_pages count was)) → AreFiled new.slots places frames (pages + count - was.pages)
  filed_recounted was count is_was updates = record {
    by_place = leads_replaced place_cmp place_total place_exact place_of old new slot places filed.by_place was (with_pages count was) is_was updates refl;
    by_frame = leads_replaced frame_cmp frame_total frame_exact frame_place_of old new slot frames filed.by_frame was (with_pages count was) is_was updates refl;
    fits = fits_after (Some (with_pages count was)) updates (λ one same.
        let e : with_pages count was ≡ one = cc in
        subst (λ (x : CountedUse). FitsPlace x) e (filed.fits slot was is_was));
    counted = omega (arith, filed.counted, simp is_was at (pages_changed old new slot (Some (with_pages count was)) updates));
  }
