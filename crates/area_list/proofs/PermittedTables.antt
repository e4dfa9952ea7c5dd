-- What all protections permit, number by number.
use Rattle.std.proofs.Common.{◌≡◌, ℕ, ◌+◌, ◌/◌, ◌<◌, ◌≤◌, inl, inr, List, ap, sym, ◌∙◌, arith, get_or, set, length}
use Rattle.std.specs.Prelude.{◌≢◌}
use Rattle.std.proofs.lemmas.Bool.{cases_lt}
use Rattle.std.proofs.lemmas.Grind.{get_or-set_at}
use Rattle.std.proofs.lemmas.List.{get_or-set_other}
use Rattle.paging_model.specs.AccessRights.{is_granted}
use Rattle.paging_model.specs.AccessSets.{has}
use Rattle.paging_model.specs.declared.access.Access.{Access}
use Rattle.paging_model.specs.declared.entries.Bits.{Bits}
use Rattle.paging_model.specs.declared.registers.Regs.{Regs}
use Rattle.area_list.specs.Protections.{ArePermitted, bits_of_number, protection_number}
use Rattle.area_list.proofs.ProtectionNumbers.{bits-of_number, key-of_number, number-below}

module _ (regs : Regs) where
  -- the sets of the numbers below one
  abbrev pub AreBelow : List ℕ → ℕ → Type 0
  AreBelow permitted number =
      (k : ℕ) → k < number → (d : ℕ) (access : Access) → has (get_or permitted k d) access ≡ is_granted regs access (bits_of_number k) (k / 8)

  pub with-next : (old : List ℕ) (number place value : ℕ) (bits : Bits) → place ≡ number → number < length old → bits ≡ bits_of_number number
      → ((access : Access) → has value access ≡ is_granted regs access bits (number / 8)) → AreBelow old number → AreBelow (set old place value) (number + 1)
  with-next old number place value bits place_is within bits_are granted so_far k below d access = elim (cases_lt k number) [
    | inl before ↦
        let other : k ≢ place = λ same. omega arith in
        ap (λ (n : ℕ). has n access) (get_or-set_other old place k value d other) ∙ so_far k before d access
    | inr from ↦
        let here : k ≡ number = omega arith in
        let there : place < length old = omega arith in
        let at : k ≡ place = omega arith in
        ap (λ (n : ℕ). has n access) (get_or-set_at old place k value d at there)
        ∙ (granted access
        ∙ (ap (λ (it : Bits). is_granted regs access it (number / 8)) bits_are ∙ ap (λ (n : ℕ). is_granted regs access (bits_of_number n) (n / 8)) (sym here)))
  ]

  pub of_all : (permitted : List ℕ) (number : ℕ) → 128 ≤ number → AreBelow permitted number → ArePermitted regs permitted
  of_all permitted number all below bits key d few access =
      let inside = number-below bits key few in
      below (protection_number bits key) (omega arith) d access
      ∙ (ap (λ (it : Bits). is_granted regs access it (protection_number bits key / 8)) (bits-of_number bits key)
      ∙ ap (λ (n : ℕ). is_granted regs access bits n) (key-of_number bits key))
