-- A map that leads to the records, after a change of one slot.
use Rattle.std.proofs.Common.{◌≡◌, ℕ, ◌⊎◌, inl, inr, Bool, true, false, Option, None, Some, cond, Ordering, refl, sym, ap, ◌∙◌}
use Rattle.std.proofs.lemmas.Bool.{cases_eq}
use Rattle.std.proofs.lemmas.Cmp.{tied_itself}
use Rattle.std.proofs.lemmas.Map.Lookups.{CmpEqualImpliesEq}
use Rattle.std.proofs.lemmas.Map.Views.{tells_apart}
use Rattle.std.specs.BTreeMap.{BTreeMap, get, is_at}
use Rattle.std.specs.Cmp.{IsTotalOrder}
use Rattle.std.specs.Ordering.{is_eq}
use Rattle.slab.specs.Slab.{Slab, Updates}
use Rattle.frame_index.specs.Records.{LeadsToSlots, PutsSlot, record_in}
use Rattle.frame_index.specs.declared.counted_use.CountedUse.{CountedUse}

bool_cases : (b : Bool) → (b ≡ true) ⊎ (b ≡ false)
bool_cases true = inl refl
bool_cases false = inr refl

module _ {K : Type 0} (R : K → K → Ordering) (total : IsTotalOrder R) (exact : CmpEqualImpliesEq R) where
  same_or_not : (k q : K) → (k ≡ q) ⊎ (is_at (R k) q ≡ false)
  same_or_not k q = elim (bool_cases (is_at (R k) q)) [
    | inl is ↦ inl (tells_apart exact k q is)
    | inr is_not ↦ inr is_not
  ]

  module _ (old new : BTreeMap K ℕ) (key : K) (value : Option ℕ) (puts : PutsSlot R old new key value) where
    pub put_here : get R new key ≡ value
    put_here = puts key ∙ ap (λ (b : Bool). cond b value (get R old key)) (ap is_eq (tied_itself total key))

    pub put_elsewhere : (other : K) → is_at (R key) other ≡ false → get R new other ≡ get R old other
    put_elsewhere other apart = puts other ∙ ap (λ (b : Bool). cond b value (get R old other)) apart

  -- a key that was put and is removed again
  pub put_back : (old mid new : BTreeMap K ℕ) (key : K) (value : Option ℕ) → get R old key ≡ None → PutsSlot R old mid key value → PutsSlot R mid new key None → (other : K) → get R new other ≡ get R old other
  put_back old mid new key value none puts removes other = elim (same_or_not key other) [
    | inl same ↦ ap (get R new) (sym same) ∙ put_here mid new key None removes ∙ sym none ∙ ap (get R old) same
    | inr apart ↦ put_elsewhere mid new key None removes other apart ∙ put_elsewhere old mid key value puts other apart
  ]

  module _ (key_of : CountedUse → K) (old new : Slab CountedUse) (slot : ℕ) (map : BTreeMap K ℕ) (leads : LeadsToSlots R key_of old.slots map) where
    pub leads_added : (item : CountedUse) (later : BTreeMap K ℕ) → record_in old.slots slot ≡ None → Updates old new slot (Some item) → get R map (key_of item) ≡ None → PutsSlot R map later (key_of item) (Some slot) → LeadsToSlots R key_of new.slots later
    leads_added item later vacant updates free puts = record {
      leads = λ i one is. elim (cases_eq i slot) [
        | inl same ↦
            let in_slot = ap (record_in new.slots) same in
            let changed = updates.changed in
            let is_item : one ≡ item = cc in
            ap (λ (x : CountedUse). get R later (key_of x)) is_item ∙ put_here map later (key_of item) (Some slot) puts ∙ ap Some (sym same)
        | inr differs ↦
            let was = leads.leads i one (sym (updates.others i differs) ∙ is) in
            elim (same_or_not (key_of item) (key_of one)) [
              | inl same ↦ let at = ap (get R map) same in absurd (cc)
              | inr apart ↦ put_elsewhere map later (key_of item) (Some slot) puts (key_of one) apart ∙ was
            ]
      ];
      has = λ key i is. elim (same_or_not (key_of item) key) [
        | inl same ↦
            let at = ap (get R later) same in
            let here = put_here map later (key_of item) (Some slot) puts in
            let is_slot : i ≡ slot = cc in
            (item, ap (record_in new.slots) is_slot ∙ updates.changed, same)
        | inr apart ↦
            let was = leads.has key i (sym (put_elsewhere map later (key_of item) (Some slot) puts key apart) ∙ is) in
            (was.0, updates.others i (λ same. let at = ap (record_in old.slots) same in let found = was.1 in absurd (cc)) ∙ was.1, was.2)
      ];
    }

    pub leads_removed : (item : CountedUse) (later : BTreeMap K ℕ) → record_in old.slots slot ≡ Some item → Updates old new slot None → PutsSlot R map later (key_of item) None → LeadsToSlots R key_of new.slots later
    leads_removed item later was_item updates puts = record {
      leads = λ i one is. elim (cases_eq i slot) [
        | inl same ↦
            let in_slot = ap (record_in new.slots) same in
            let changed = updates.changed in
            absurd (cc)
        | inr differs ↦
            let was = leads.leads i one (sym (updates.others i differs) ∙ is) in
            elim (same_or_not (key_of item) (key_of one)) [
              | inl same ↦
                  let at = ap (get R map) same in
                  let there = leads.leads slot item was_item in
                  let is_slot : i ≡ slot = cc in
                  absurd (differs is_slot)
              | inr apart ↦ put_elsewhere map later (key_of item) None puts (key_of one) apart ∙ was
            ]
      ];
      has = λ key i is. elim (same_or_not (key_of item) key) [
        | inl same ↦
            let at = ap (get R later) same in
            let here = put_here map later (key_of item) None puts in
            absurd (cc)
        | inr apart ↦
            let was = leads.has key i (sym (put_elsewhere map later (key_of item) None puts key apart) ∙ is) in (
              was.0,
              updates.others i (λ same.
                  let at = ap (record_in old.slots) same in
                  let found = was.1 in
                  let is_item : was.0 ≡ item = cc in
                  let itself = ap is_eq (tied_itself total (key_of item)) in
                  let key_is : key ≡ key_of item = sym was.2 ∙ ap key_of is_item in
                  let at_key = ap (is_at (R (key_of item))) key_is in
                  absurd (cc)) ∙ was.1,
              was.2,
            )
      ];
    }

    pub leads_replaced : (was item : CountedUse) → record_in old.slots slot ≡ Some was → Updates old new slot (Some item) → key_of item ≡ key_of was → LeadsToSlots R key_of new.slots map
    leads_replaced was item is_was updates same_key = record {
      leads = λ i one is. elim (cases_eq i slot) [
        | inl same ↦
            let in_slot = ap (record_in new.slots) same in
            let changed = updates.changed in
            let is_item : one ≡ item = cc in
            ap (get R map) (ap key_of is_item ∙ same_key) ∙ leads.leads slot was is_was ∙ ap Some (sym same)
        | inr differs ↦ leads.leads i one (sym (updates.others i differs) ∙ is)
      ];
      has = λ key i is.
          let found = leads.has key i is in
          elim (cases_eq i slot) [
            | inl same ↦
                let in_slot = ap (record_in old.slots) same in
                let there = found.1 in
                let is_found : found.0 ≡ was = cc in
                (item, ap (record_in new.slots) same ∙ updates.changed, same_key ∙ ap key_of (sym is_found) ∙ found.2)
            | inr differs ↦ (found.0, updates.others i differs ∙ found.1, found.2)
          ];
    }
