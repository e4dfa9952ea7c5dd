-- Lists of intervals that grow at their end. Source: our own.
use Rattle.std.specs.Prelude.{ℕ, ◌+◌, ◌-◌, ◌<◌, ◌≤◌, List, [], ◌∷◌, ◌++◌, length, max, nat_le, if◌then◌else◌, slice_index_or}
use Rattle.time_sets.specs.Sets.{AreApartFrom}

-- intervals from the number on can follow the list
pub record CanFollow (list : List (ℕ × ℕ)) (low : ℕ) : Type 0 where
  pub onward : (more : List (ℕ × ℕ)) → AreApartFrom low more → AreApartFrom 0 (list ++ more)

-- the number is after the last interval of the list, and doesn't touch it
pub record IsAfterLast (list : List (ℕ × ℕ)) (first : ℕ) : Type 0 where
  pub apart : (d : ℕ × ℕ) → 0 < length list → (slice_index_or list (length list - 1) d).1 + 1 < first

-- the number is in the last interval of the list, or right after it
pub record BeginsAtLast (list : List (ℕ × ℕ)) (first : ℕ) : Type 0 where
  pub some : 0 < length list
  pub from : (d : ℕ × ℕ) → (slice_index_or list (length list - 1) d).0 ≤ first
  pub to : (d : ℕ × ℕ) → first ≤ (slice_index_or list (length list - 1) d).1 + 1

-- the list, where its last interval ends at the number or later
abbrev pub lengthen : List (ℕ × ℕ) → ℕ → List (ℕ × ℕ)
lengthen [] last = []
lengthen (interval ∷ []) last = (interval.0, max interval.1 last) ∷ []
lengthen (interval ∷ next ∷ rest) last = interval ∷ lengthen (next ∷ rest) last

-- the list, and at its end one more interval that has numbers
abbrev pub with_numbers : List (ℕ × ℕ) → ℕ × ℕ → List (ℕ × ℕ)
with_numbers list interval = if nat_le interval.0 interval.1 then list ++ interval ∷ [] else list
