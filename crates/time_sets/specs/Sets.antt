-- Sets of numbers as lists of intervals, each the pair of its first and its last number. Source: our own.
use Rattle.std.specs.Prelude.{ℕ, ◌+◌, ◌≤◌, ◌&&◌, ◌||◌, Bool, false, List, [], ◌∷◌, nat_le}

-- the number is in the interval
abbrev pub is_within : ℕ × ℕ → ℕ → Bool
is_within interval t = nat_le interval.0 t && nat_le t interval.1

-- the number is in the set
abbrev pub has_time : List (ℕ × ℕ) → ℕ → Bool
has_time [] t = false
has_time (interval ∷ rest) t = is_within interval t || has_time rest t

-- intervals from a number on, in ascending order; no two overlap or touch
abbrev pub AreApartFrom : ℕ → List (ℕ × ℕ) → Type 0
AreApartFrom low [] = Unit {0}
AreApartFrom low (interval ∷ rest) = (low ≤ interval.0) × (interval.0 ≤ interval.1) × AreApartFrom (interval.1 + 2) rest
