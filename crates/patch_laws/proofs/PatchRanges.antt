-- Where patches lie, and the uses that are found from them.
use Rattle.std.proofs.Common.{◌≡◌, ℕ, ◌+◌, ◌<◌, ◌≤◌, ◌⊎◌, inl, inr, List, [], ◌∷◌, refl, sym, ◌∙◌, subst, arith}
use Rattle.std.proofs.lemmas.Bool.{cases_lt}
use Rattle.paging_model.specs.Counting.{IsIn, AreDistinct}
use Rattle.paging_model.specs.Memory.{Memory}
use Rattle.paging_model.specs.LinearAddress.{span}
use Rattle.paging_model.specs.declared.registers.Settings.{Settings}
use Rattle.paging_model.specs.declared.spaces.TableUse.{TableUse}
use Rattle.paging_laws.proofs.EntryLaws.{uses_in-range, uses_in-distinct}
use Rattle.paging_laws.proofs.Membership.{in-append, append-left, append-right, distinct-append}
use Rattle.paging_laws.proofs.SlotRanges.{slot_starts}
use Rattle.kept_laws.specs.Patches.{low_of, high_of, IsPatched, AreSeparate, uses_in_patch, uses_in_patches, IsBeneath, IsBeneathOne}
use Rattle.kept_laws.specs.declared.patches.Patch.{Patch}

pub low-high : (patch : Patch) → low_of patch ≤ high_of patch
low-high patch = slot_starts (span patch.table.level) patch.table.prefix patch.from (patch.from + patch.count) (omega arith)

-- each of the later patches begins after the first one ends
pub after-first : (one : Patch) (rest : List Patch) → AreSeparate (one ∷ rest) → (patch : Patch) → IsIn patch rest → high_of one ≤ low_of patch
after-first one [] ascending patch is = absurd is
after-first one (two ∷ rest) ascending patch (inl same) = subst (λ (it : Patch). high_of one ≤ low_of it) (sym same) ascending.0
after-first one (two ∷ rest) ascending patch (inr is) =
    let far = after-first two rest ascending.1 patch is in
    let within = low-high two in
    omega (arith, ascending.0)

pub ascending-rest : (one : Patch) (rest : List Patch) → AreSeparate (one ∷ rest) → AreSeparate rest
ascending-rest one [] ascending = tt
ascending-rest one (two ∷ rest) ascending = ascending.1

-- a use is beneath one of them at most
apart : (one : Patch) (rest : List Patch) (first second : Patch) (table : TableUse) → AreSeparate (one ∷ rest) → first ≡ one → IsIn second rest
    → IsBeneath first table → IsBeneath second table → ⊥
apart one rest first second table ascending same is beneath other =
    let far = subst (λ (it : Patch). high_of it ≤ low_of second) (sym same) (after-first one rest ascending second is) in
    omega (arith, beneath.high, other.low)

pub beneath-one : (patches : List Patch) (first second : Patch) (table : TableUse) → AreSeparate patches → IsIn first patches → IsIn second patches
    → IsBeneath first table → IsBeneath second table → first ≡ second
beneath-one [] first second table ascending is is' beneath other = absurd is
beneath-one (one ∷ rest) first second table ascending (inl same) (inl same') beneath other = same ∙ sym same'
beneath-one (one ∷ rest) first second table ascending (inl same) (inr is) beneath other =
    absurd (apart one rest first second table ascending same is beneath other)
beneath-one (one ∷ rest) first second table ascending (inr is) (inl same) beneath other =
    absurd (apart one rest second first table ascending same is other beneath)
beneath-one (one ∷ rest) first second table ascending (inr is) (inr is') beneath other =
    beneath-one rest first second table (ascending-rest one rest ascending) is is' beneath other

not-here : (one : Patch) (rest : List Patch) (x : ℕ) → (IsPatched rest x → ⊥) → (low_of one ≤ x → x < high_of one → ⊥) → IsPatched (one ∷ rest) x → ⊥
not-here one rest x none never is = elim is.is_in [
  | inl same ↦ never (subst (λ (it : Patch). low_of it ≤ x) same is.low) (subst (λ (it : Patch). x < high_of it) same is.high)
  | inr there ↦ none (record { patch = is.patch; is_in = there; low = is.low; high = is.high })
]

-- an address is in a patch or in none
pub is-patched : (patches : List Patch) (x : ℕ) → (IsPatched patches x ⊎ (IsPatched patches x → ⊥))
is-patched [] x = inr (λ one. one.is_in)
is-patched (one ∷ rest) x = elim (is-patched rest x) [
  | inl there ↦ inl (record { patch = there.patch; is_in = inr there.is_in; low = there.low; high = there.high })
  | inr none ↦ elim (cases_lt x (low_of one)) [
    | inl before ↦ inr (not-here one rest x none (λ low high. omega arith))
    | inr from ↦ elim (cases_lt x (high_of one)) [
      | inl to ↦ inl (record { patch = one; is_in = inl refl; low = from; high = to })
      | inr after ↦ inr (not-here one rest x none (λ low high. omega arith))
    ]
  ]
]

-- a patch from which a use is found
pub record FoundFrom (memory : Memory) (settings : Settings) (patches : List Patch) (table : TableUse) : Type 0 where
  pub patch : Patch
  pub is_in : IsIn patch patches
  pub here : IsIn table (uses_in_patch memory settings patch)

module _ (memory : Memory) (settings : Settings) where
  pub found-beneath : (patch : Patch) (table : TableUse) → IsIn table (uses_in_patch memory settings patch) → IsBeneath patch table
  found-beneath patch table is =
      let lies = uses_in-range memory settings patch.table.level patch.table.frame patch.table.prefix patch.table.bits patch.from patch.count table is in
      record { lower = lies.lower; low = lies.from; high = lies.before }

  pub found-from : (patches : List Patch) (table : TableUse) → IsIn table (uses_in_patches memory settings patches)
      → FoundFrom memory settings patches table
  found-from [] table is = absurd is
  found-from (patch ∷ rest) table is = elim (in-append (uses_in_patch memory settings patch) (uses_in_patches memory settings rest) table is) [
    | inl here ↦ record { patch = patch; is_in = inl refl; here = here }
    | inr there ↦ let it = found-from rest table there in record { patch = it.patch; is_in = inr it.is_in; here = it.here }
  ]

  pub from-found : (patches : List Patch) (patch : Patch) (table : TableUse) → IsIn patch patches
      → IsIn table (uses_in_patch memory settings patch) → IsIn table (uses_in_patches memory settings patches)
  from-found [] patch table is here = absurd is
  from-found (one ∷ rest) patch table (inl same) here =
      append-left (uses_in_patch memory settings one) (uses_in_patches memory settings rest) table
      (subst (λ (it : Patch). IsIn table (uses_in_patch memory settings it)) same here)
  from-found (one ∷ rest) patch table (inr is) here =
      append-right (uses_in_patch memory settings one) (uses_in_patches memory settings rest) table (from-found rest patch table is here)

  pub found-beneath_one : (patches : List Patch) (table : TableUse) → IsIn table (uses_in_patches memory settings patches)
      → IsBeneathOne patches table
  found-beneath_one patches table is =
      let it = found-from patches table is in
      record { patch = it.patch; is_in = it.is_in; beneath = found-beneath it.patch table it.here }

  -- nothing is found twice
  pub found-distinct : (patches : List Patch) → AreSeparate patches → AreDistinct (uses_in_patches memory settings patches)
  found-distinct [] ascending = tt
  found-distinct (one ∷ rest) ascending =
      distinct-append (uses_in_patch memory settings one) (uses_in_patches memory settings rest)
      (uses_in-distinct memory settings one.table.level one.table.frame one.table.prefix one.table.bits one.from one.count)
      (found-distinct rest (ascending-rest one rest ascending))
      (λ table here there.
      let other = found-beneath_one rest table there in
      apart one rest one other.patch table ascending refl other.is_in (found-beneath one table here) other.beneath)
