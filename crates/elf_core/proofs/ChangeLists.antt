-- Owners by a list of changes, and by one more.
use Rattle.std.proofs.Common.{◌≡◌, ◌≢◌, ℕ, ◌+◌, ◌-◌, ◌<◌, ◌≤◌, List, [], ◌∷◌, ◌++◌, length, get_or, zero, suc, Option, Some, None, refl, sym, ap, arith}
use Rattle.std.specs.Prelude.{All, nat_le, nat_eq, true, false}
use Rattle.std.proofs.lemmas.Bool.{le-leb, eqb-true, eqb-false}
use Rattle.std.proofs.lemmas.Bool.Decides.{nat_tests}
use Rattle.std.proofs.lemmas.List.Elements.{All-head, All-tail}
use Rattle.std.specs.Option.{option_eq}
use Rattle.elf_core.specs.Changes.{owner_after, last_owner, AscendsFrom}
use Rattle.elf_core.specs.declared.changes.Change.{Change}

above_false : (a b : ℕ) → b < a → nat_le a b ≡ false
above_false a b above = grind (arith, nat_tests)

-- before the changes the owner stays
pub owner_after-below : (changes : List Change) (low a : ℕ) (before owner : Option ℕ) → AscendsFrom low owner changes → a < low → owner_after before changes a ≡ before
owner_after-below [] low a before owner ascends below = refl
owner_after-below (change ∷ later) low a before owner ascends below =
    let above : a < change.from = omega (arith, ascends.0) in
    rw (above_false change.from a above) (owner_after-below later (change.from + 1) a before change.owner ascends.2 (omega arith))

-- a change after the address
pub owner_after-push_above : (changes : List Change) (change : Change) (a : ℕ) (before : Option ℕ) → a < change.from → owner_after before (changes ++ change ∷ []) a ≡ owner_after before changes a
owner_after-push_above [] change a before above = grind (arith, nat_tests)
owner_after-push_above (first ∷ later) change a before above = owner_after-push_above later change a _ above

-- a last change at the address or before it
pub owner_after-push_below : (changes : List Change) (change : Change) (a : ℕ) (before : Option ℕ) → change.from ≤ a → owner_after before (changes ++ change ∷ []) a ≡ change.owner
owner_after-push_below [] change a before below = grind (arith, nat_tests)
owner_after-push_below (first ∷ later) change a before below = owner_after-push_below later change a _ below

-- one more change, to another owner
pub AscendsFrom-push : (changes : List Change) (change : Change) (low : ℕ) (before : Option ℕ) → AscendsFrom low before changes → low ≤ change.from → All (λ earlier. earlier.from < change.from) changes → change.owner ≢ owner_after before changes change.from → AscendsFrom low before (changes ++ change ∷ [])
AscendsFrom-push [] change low before ascends above below other = (above, other, tt)
AscendsFrom-push (first ∷ later) change low before ascends above below other =
    let lower : first.from < change.from = All-head (λ earlier. earlier.from < change.from) first later below in
    let passed : nat_le first.from change.from ≡ true = le-leb first.from change.from (omega arith) in
    (ascends.0, ascends.1, AscendsFrom-push later change (first.from + 1) first.owner ascends.2 (omega arith) (All-tail (λ earlier. earlier.from < change.from) first later below) (rw passed at other))

-- a test of owners
pub same_owner : (owner before : Option ℕ) → true ≡ option_eq nat_eq owner before → owner ≡ before
same_owner None None is = refl
same_owner None (Some k) is = absurd cc
same_owner (Some k) None is = absurd cc
same_owner (Some k) (Some n) is = ap Some (eqb-true k n (sym is))

pub other_owner : (owner before : Option ℕ) → false ≡ option_eq nat_eq owner before → owner ≢ before
other_owner None None is same = absurd cc
other_owner None (Some k) is same = absurd cc
other_owner (Some k) None is same = absurd cc
other_owner (Some k) (Some n) is same = eqb-false k n (sym is) cc

-- the last of some changes
last_owner_at : (changes : List Change) (before : Option ℕ) (n : ℕ) (d : Change) → length changes ≡ n + 1 → last_owner before changes ≡ (get_or changes n d).owner
last_owner_at [] before n d count = absurd (omega arith)
last_owner_at (change ∷ []) before zero d count = refl
last_owner_at (change ∷ []) before (suc n) d count = absurd (omega arith)
last_owner_at (change ∷ (next ∷ later)) before zero d count = absurd (omega arith)
last_owner_at (change ∷ (next ∷ later)) before (suc n) d count = last_owner_at (next ∷ later) change.owner n d (omega arith)

pub last_owner_is : (changes : List Change) (before : Option ℕ) (d : Change) → 1 ≤ length changes → last_owner before changes ≡ (get_or changes (length changes - 1) d).owner
last_owner_is changes before d some = last_owner_at changes before (length changes - 1) d (omega arith)
