-- The addresses at which the first of several extents that covers changes.
use Rattle.std.specs.Prelude.{◌≡◌, ◌≢◌, ℕ, ◌+◌, ◌-◌, ◌^◌, ◌<◌, ◌≤◌, ◌⊎◌, List, [], ◌∷◌, min, Option, Some, None, nat_le, if◌then◌else◌}
use Rattle.elf_core.specs.declared.changes.Change.{Change}
use Rattle.elf_core.specs.declared.changes.Rest.{Rest}

-- the owner of an address: that of the last change at it or before it, or else the owner before all changes
abbrev pub owner_after : Option ℕ → List Change → ℕ → Option ℕ
owner_after before [] a = before
owner_after before (change ∷ later) a =
    owner_after (if nat_le change.from a then change.owner else before) later a

-- the owner of an address, where none is before all changes
abbrev pub owner_at : List Change → ℕ → Option ℕ
owner_at changes a = owner_after None changes a

-- the owner after all changes
abbrev pub last_owner : Option ℕ → List Change → Option ℕ
last_owner before [] = before
last_owner before (change ∷ later) = last_owner change.owner later

-- the address of the first change
abbrev pub first_from : List Change → Option ℕ
first_from [] = None
first_from (change ∷ later) = Some change.from

-- the address of the first change of two lists
abbrev pub next_from : List Change → List Change → Option ℕ
next_from [] second = first_from second
next_from (change ∷ later) [] = Some change.from
next_from (change ∷ later) (other ∷ others) = Some (min change.from other.from)

-- changes in ascending order from an address on, each to another owner than before it
abbrev pub AscendsFrom : ℕ → Option ℕ → List Change → Type 0
AscendsFrom low before [] = Unit {0}
AscendsFrom low before (change ∷ later) =
    (low ≤ change.from) × (change.owner ≢ before) × AscendsFrom (change.from + 1) change.owner later

-- all changes of the owners of addresses
pub record AreChanges (owner_of : ℕ → Option ℕ) (changes : List Change) : Type 0 where
  pub ascends : AscendsFrom 0 None changes
  pub owners : (a : ℕ) → owner_at changes a ≡ owner_of a

-- what is left after an address
pub record IsRestAfter (at : ℕ) (before after : Rest) : Type 0 where
  pub ascends : AscendsFrom (at + 1) after.owner after.changes.now
  pub owners : (a : ℕ) → at ≤ a
      → owner_after after.owner after.changes.now a ≡ owner_after before.owner before.changes.now a

-- an owner stays from an address up to an end: another one follows there, if it isn't the last of all addresses
pub record StaysUntil (owner_of : ℕ → Option ℕ) (at end : ℕ) (owner : Option ℕ) : Type 0 where
  pub ahead : at ≤ end
  pub here : owner_of at ≡ owner
  pub stays : (a : ℕ) → at ≤ a → a < end → owner_of a ≡ owner
  pub ends : (end ≡ 2 ^ 64 - 1) ⊎ (owner_of end ≢ owner)
