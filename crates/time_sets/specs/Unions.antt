-- A union of two lists as it grows: intervals that are complete, and one that grows. Source: our own.
use Rattle.std.specs.Prelude.{◌≡◌, ℕ, ◌<◌, ◌≤◌, ◌||◌, List, length, drop, slice_index_or}
use Rattle.time_sets.specs.Sets.{AreApartFrom, has_time, is_within}
use Rattle.time_sets.specs.Ends.{CanFollow}

-- one list has an interval at place i, and the other begins no interval before it from place j on
pub record ComesFirst (one : List (ℕ × ℕ)) (i : ℕ) (other : List (ℕ × ℕ)) (j : ℕ) : Type 0 where
  pub within : i < length one
  pub first : (d : ℕ × ℕ) (low : ℕ) → AreApartFrom low (drop j other) → AreApartFrom (slice_index_or one i d).0 (drop j other)

-- the complete intervals and the growing one have the numbers of the next interval too
pub record IsAbsorbed (before : List (ℕ × ℕ)) (growing next : ℕ × ℕ) (after : List (ℕ × ℕ)) (now : ℕ × ℕ) : Type 0 where
  pub members : (t : ℕ) → (has_time after t || is_within now t) ≡ (has_time before t || (is_within growing t || is_within next t))
  pub low : now.0 ≤ next.0
  pub order : now.0 ≤ now.1
  pub follow : CanFollow before growing.0 → CanFollow after now.0
