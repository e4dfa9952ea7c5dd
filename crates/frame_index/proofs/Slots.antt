-- Slots of records, and the list of the records.
use Rattle.std.proofs.Common.{◌≡◌, ◌≢◌, ℕ, zero, suc, ◌+◌, ◌≤◌, inl, inr, List, [], ◌∷◌, length, Option, None, Some, is_some, cond, count_by, refl, sym, ap, ◌∙◌, subst, arith}
use Rattle.std.proofs.lemmas.Bool.{cases_eq}
use Rattle.std.proofs.lemmas.List.Sums.{sum_by-cons}
use Rattle.slab.specs.Slab.{Slab, Updates}
use Rattle.paging_model.specs.Counting.{IsIn, AreDistinct}
use Rattle.frame_index.specs.CountedUses.{HaveOwnPlaces, HasOneMore, IsAt, IsRecounted, NoneAt, pages_counted, with_pages}
use Rattle.frame_index.specs.Records.{record_in, records_in}
use Rattle.frame_index.specs.declared.counted_use.CountedUse.{CountedUse}

-- ---- which records there are

pub is_in_from_slot : (slots : List (Option CountedUse)) (slot : ℕ) (one : CountedUse) → record_in slots slot ≡ Some one → IsIn one (records_in slots)
is_in_from_slot [] slot one found = absurd (cc)
is_in_from_slot (None ∷ rest) zero one found = absurd (cc)
is_in_from_slot (None ∷ rest) (suc slot) one found = is_in_from_slot rest slot one found
is_in_from_slot (Some first ∷ rest) zero one found = inl (cc)
is_in_from_slot (Some first ∷ rest) (suc slot) one found = inr (is_in_from_slot rest slot one found)

pub slot_from_is_in : (slots : List (Option CountedUse)) (one : CountedUse) → IsIn one (records_in slots) → (slot : ℕ) × (record_in slots slot ≡ Some one)
slot_from_is_in [] one is = absurd is
slot_from_is_in (None ∷ rest) one is = let found = slot_from_is_in rest one is in (suc found.0, found.1)
slot_from_is_in (Some first ∷ rest) one (inl same) = (zero, ap Some (sym same))
slot_from_is_in (Some first ∷ rest) one (inr is) = let found = slot_from_is_in rest one is in (suc found.0, found.1)

pub length-records_in : (slots : List (Option CountedUse)) → length (records_in slots) ≡ count_by is_some slots
length-records_in [] = refl
length-records_in (None ∷ rest) = omega (arith, length-records_in rest, sum_by-cons (λ o. cond (is_some o) 1 0) None rest)
length-records_in (Some one ∷ rest) = omega (arith, length-records_in rest, sum_by-cons (λ o. cond (is_some o) 1 0) (Some one) rest)

-- ---- places

pub none_at_from_each : (level prefix : ℕ) (items : List CountedUse) → ((one : CountedUse) → IsIn one items → IsAt level prefix one → ⊥) → NoneAt level prefix items
none_at_from_each level prefix [] none = tt
none_at_from_each level prefix (one ∷ items) none = (none one (inl refl), none_at_from_each level prefix items (λ x is. none x (inr is)))

pub each_from_none_at : (level prefix : ℕ) (items : List CountedUse) → NoneAt level prefix items → (one : CountedUse) → IsIn one items → IsAt level prefix one → ⊥
each_from_none_at level prefix [] none one is at = is
each_from_none_at level prefix (first ∷ items) none one (inl same) at = none.0 (subst (λ (x : CountedUse). IsAt level prefix x) same at)
each_from_none_at level prefix (first ∷ items) none one (inr is) at = each_from_none_at level prefix items none.1 one is at

-- records with one place stand in one slot
pub record HaveOwnSlots (slots : List (Option CountedUse)) : Type 0 where
  pub same : (i j : ℕ) (x y : CountedUse) → record_in slots i ≡ Some x → record_in slots j ≡ Some y → IsAt y.table.level y.table.prefix x → i ≡ j

own_rest : (slot : Option CountedUse) (rest : List (Option CountedUse)) → HaveOwnSlots (slot ∷ rest) → HaveOwnSlots rest
own_rest slot rest own = record { same = λ i j x y is_x is_y at. let next = own.same (suc i) (suc j) x y is_x is_y at in omega (arith, next) }

pub own_places : (slots : List (Option CountedUse)) → HaveOwnSlots slots → HaveOwnPlaces (records_in slots)
own_places [] own = tt
own_places (None ∷ rest) own = own_places rest (own_rest None rest own)
own_places (Some one ∷ rest) own = (
  none_at_from_each one.table.level one.table.prefix (records_in rest) (λ x is at.
      let found = slot_from_is_in rest x is in
      let same = own.same (suc found.0) zero x one found.1 refl at in
      omega (arith, same)),
  own_places rest (own_rest (Some one) rest own),
)

pub are_distinct : (items : List CountedUse) → HaveOwnPlaces items → AreDistinct items
are_distinct [] own = tt
are_distinct (one ∷ items) own = (λ is. each_from_none_at one.table.level one.table.prefix items own.0 one is (refl, refl), are_distinct items own.1)

-- ---- sums over slots

module _ (weigh : Option CountedUse → ℕ) (nothing : weigh None ≡ 0) where
  abbrev total : List (Option CountedUse) → ℕ
  total [] = 0
  total (slot ∷ rest) = weigh slot + total rest

  abbrev tail : List (Option CountedUse) → List (Option CountedUse)
  tail [] = []
  tail (slot ∷ rest) = rest

  total-tail : (slots : List (Option CountedUse)) → total slots ≡ weigh (record_in slots 0) + total (tail slots)
  total-tail [] = omega (arith, nothing)
  total-tail (slot ∷ rest) = refl

  in_tail : (slots : List (Option CountedUse)) (slot : ℕ) → record_in (tail slots) slot ≡ record_in slots (suc slot)
  in_tail [] slot = refl
  in_tail (one ∷ rest) slot = refl

  total_none : (slots : List (Option CountedUse)) → ((slot : ℕ) → record_in slots slot ≡ None) → total slots ≡ 0
  total_none [] none = refl
  total_none (slot ∷ rest) none = omega (arith, total_none rest (λ i. none (suc i)), ap weigh (none zero), nothing)

  total_same : (old new : List (Option CountedUse)) → ((slot : ℕ) → record_in new slot ≡ record_in old slot) → total new ≡ total old
  total_same [] new same = total_none new same
  total_same (slot ∷ rest) new same =
      omega (
        arith,
        total-tail new,
        ap weigh (same zero),
        total_same rest (tail new) (λ i. in_tail new i ∙ same (suc i)),
      )

  pub total_changed : (slot : ℕ) (old new : List (Option CountedUse)) → ((other : ℕ) → other ≢ slot → record_in new other ≡ record_in old other) → total new + weigh (record_in old slot) ≡ total old + weigh (record_in new slot)
  total_changed zero old new others =
      omega (
        arith,
        total-tail new,
        total-tail old,
        total_same (tail old) (tail new) (λ i. in_tail new i ∙ others (suc i) (λ same. omega (arith, same)) ∙ sym (in_tail old i)),
      )
  total_changed (suc slot) old new others =
      omega (
        arith,
        total-tail new,
        total-tail old,
        ap weigh (others zero (λ same. omega (arith, same))),
        ap weigh (in_tail old slot),
        ap weigh (in_tail new slot),
        total_changed slot (tail old) (tail new)
            (λ i differs. in_tail new i ∙ others (suc i) (λ same. differs (omega (arith, same))) ∙ sym (in_tail old i)),
      )

abbrev pages_in : Option CountedUse → ℕ
pages_in None = 0
pages_in (Some one) = one.pages

abbrev one_in : Option CountedUse → ℕ
one_in None = 0
one_in (Some one) = 1

total_pages : (slots : List (Option CountedUse)) → total pages_in refl slots ≡ pages_counted (records_in slots)
total_pages [] = refl
total_pages (None ∷ rest) = omega (arith, total_pages rest)
total_pages (Some one ∷ rest) = omega (arith, total_pages rest)

total_ones : (slots : List (Option CountedUse)) → total one_in refl slots ≡ length (records_in slots)
total_ones [] = refl
total_ones (None ∷ rest) = omega (arith, total_ones rest)
total_ones (Some one ∷ rest) = omega (arith, total_ones rest)

pub pages_changed : (old new : Slab CountedUse) (slot : ℕ) (value : Option CountedUse) → Updates old new slot value → pages_counted (records_in new.slots) + pages_in (record_in old.slots slot) ≡ pages_counted (records_in old.slots) + pages_in value
pages_changed old new slot value updates =
    omega (
      arith,
      total_pages new.slots,
      total_pages old.slots,
      ap pages_in updates.changed,
      total_changed pages_in refl slot old.slots new.slots updates.others,
    )

length_changed : (old new : Slab CountedUse) (slot : ℕ) (value : Option CountedUse) → Updates old new slot value → length (records_in new.slots) + one_in (record_in old.slots slot) ≡ length (records_in old.slots) + one_in value
length_changed old new slot value updates =
    omega (
      arith,
      total_ones new.slots,
      total_ones old.slots,
      ap one_in updates.changed,
      total_changed one_in refl slot old.slots new.slots updates.others,
    )

pub pages_of_slot : (slots : List (Option CountedUse)) (slot : ℕ) (one : CountedUse) → record_in slots slot ≡ Some one → one.pages ≤ pages_counted (records_in slots)
pages_of_slot [] slot one found = absurd (cc)
pages_of_slot (None ∷ rest) zero one found = absurd (cc)
pages_of_slot (None ∷ rest) (suc slot) one found = pages_of_slot rest slot one found
pages_of_slot (Some first ∷ rest) zero one found = let same : first ≡ one = cc in omega (arith, ap (λ (x : CountedUse). x.pages) same)
pages_of_slot (Some first ∷ rest) (suc slot) one found = omega (arith, pages_of_slot rest slot one found)

-- ---- what a change of one slot makes of the records

same_record : (slots : List (Option CountedUse)) (i j : ℕ) (x y : CountedUse) → record_in slots i ≡ Some x → record_in slots j ≡ Some y → i ≡ j → x ≡ y
same_record slots i j x y is_x is_y same = let e = ap (record_in slots) same in cc

pub is_added : (old new : Slab CountedUse) (slot : ℕ) (item : CountedUse) → record_in old.slots slot ≡ None → Updates old new slot (Some item) → HasOneMore item (records_in old.slots) (records_in new.slots)
is_added old new slot item vacant updates = record {
  each = λ one is.
      let found = slot_from_is_in new.slots one is in
      elim (cases_eq found.0 slot) [
        | inl same ↦ inl (same_record new.slots found.0 slot one item found.1 updates.changed same)
        | inr differs ↦ inr (is_in_from_slot old.slots found.0 one (sym (updates.others found.0 differs) ∙ found.1))
      ];
  item_is = is_in_from_slot new.slots slot item updates.changed;
  others = λ one is.
      let found = slot_from_is_in old.slots one is in
      is_in_from_slot new.slots found.0 one (updates.others found.0 (λ same. let e = ap (record_in old.slots) same in let f = found.1 in absurd (cc)) ∙ found.1);
  many = omega (arith, length_changed old new slot (Some item) updates, ap one_in vacant);
  pages = omega (arith, pages_changed old new slot (Some item) updates, ap pages_in vacant);
}

pub is_recounted : (old new : Slab CountedUse) (slot level prefix pages : ℕ) (was : CountedUse) → HaveOwnSlots old.slots → record_in old.slots slot ≡ Some was → IsAt level prefix was → Updates old new slot (Some (with_pages pages was)) → IsRecounted level prefix pages (records_in old.slots) (records_in new.slots)
is_recounted old new slot level prefix pages was own is_was at_was updates =
    let is_slot : (i : ℕ) (one : CountedUse) → record_in old.slots i ≡ Some one → IsAt level prefix one → i ≡ slot = λ i one is at.
    own.same i slot one was is is_was (at.0 ∙ sym at_was.0, at.1 ∙ sym at_was.1) in
    record {
      each = λ one is.
          let found = slot_from_is_in new.slots one is in
          elim (cases_eq found.0 slot) [
            | inl same ↦ inr (was, is_in_from_slot old.slots slot was is_was, at_was, same_record new.slots found.0 slot one (with_pages pages was) found.1 updates.changed same)
            | inr differs ↦
                let is_one = sym (updates.others found.0 differs) ∙ found.1 in
                inl (is_in_from_slot old.slots found.0 one is_one, λ at. differs (is_slot found.0 one is_one at))
          ];
      others = λ one is apart.
          let found = slot_from_is_in old.slots one is in
          is_in_from_slot new.slots found.0 one (updates.others found.0 (λ same.
          apart (subst (λ (x : CountedUse). IsAt level prefix x) (sym (same_record old.slots found.0 slot one was found.1 is_was same)) at_was)) ∙ found.1);
      changed = λ one is at.
          let found = slot_from_is_in old.slots one is in
          let same = same_record old.slots found.0 slot one was found.1 is_was (is_slot found.0 one found.1 at) in
          is_in_from_slot new.slots slot (with_pages pages one) (updates.changed ∙ ap (λ (x : CountedUse). Some (with_pages pages x)) (sym same));
      many = omega (arith, length_changed old new slot (Some (with_pages pages was)) updates, ap one_in is_was);
      pages_are = λ one is at.
          let found = slot_from_is_in old.slots one is in
          let same = same_record old.slots found.0 slot one was found.1 is_was (is_slot found.0 one found.1 at) in
          omega (arith, pages_changed old new slot (Some (with_pages pages was)) updates, ap pages_in is_was, ap (λ (x : CountedUse). x.pages) same);
    }

pub not_recounted : (items : List CountedUse) (level prefix pages : ℕ) → ((one : CountedUse) → IsIn one items → IsAt level prefix one → ⊥) → IsRecounted level prefix pages items items
not_recounted items level prefix pages none = record {
  each = λ one is. inl (is, none one is);
  others = λ one is apart. is;
  changed = λ one is at. absurd (none one is at);
  many = refl;
  pages_are = λ one is at. absurd (none one is at);
}
