-- Times through which what was made is held. Our own words, over SDM 3A, "Caching Translation Information": it is held from
-- when it was made until it is removed.
use Rattle.std.specs.Prelude.{◌≡◌, ℕ, ◌<◌, ◌≤◌, Bool, true, false, List, Option, Some, None}
use Rattle.time_sets.specs.Sets.{has_time}

-- made at a time of a set, up to u, and not taken from then on up to u, which isn't after now
pub record IsHeldAt (is_taken : ℕ → Bool) (made : List (ℕ × ℕ)) (now u : ℕ) : Type 0 where
  pub t : ℕ
  pub is_made : has_time made t ≡ true
  pub order : t ≤ u
  pub within : u ≤ now
  pub spared : (v : ℕ) → t < v → v ≤ u → is_taken v ≡ false

-- the last time, up to now, to which what is there at t is held
pub record IsHeldTo (is_taken : ℕ → Bool) (t now last : ℕ) : Type 0 where
  pub order : t ≤ last
  pub within : last ≤ now
  pub spared : (v : ℕ) → t < v → v ≤ last → is_taken v ≡ false
  pub greatest : (u : ℕ) → t ≤ u → u ≤ now → ((v : ℕ) → t < v → v ≤ u → is_taken v ≡ false) → u ≤ last

-- the last time of a set; none of the empty one
abbrev pub IsLastTime : List (ℕ × ℕ) → Option ℕ → Type 0
IsLastTime times None = (t : ℕ) → has_time times t ≡ false
IsLastTime times (Some last) = (has_time times last ≡ true) × ((t : ℕ) → has_time times t ≡ true → t ≤ last)
