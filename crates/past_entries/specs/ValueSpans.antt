-- What the values of a slot make over time: a span has a first and a last time, and the value between them. Our own words.
use Rattle.std.specs.Prelude.{◌≡◌, ℕ, ◌<◌, ◌≤◌, ◌⊎◌, true, List, [], ◌∷◌, Option, Some}
use Rattle.history_model.specs.CachedTranslations.{Held}
use Rattle.time_sets.specs.Sets.{has_time}

-- no span ends before it begins
abbrev pub AreInOrder : List (ℕ × ℕ × ℕ) → Type 0
AreInOrder [] = Unit {0}
AreInOrder (span ∷ rest) = (span.0 ≤ span.1) × AreInOrder rest

-- at a time of a span and of a set of times, the span's value makes what is held
abbrev pub MakesDuring : (ℕ → Option Held) → List (ℕ × ℕ) → ℕ × ℕ × ℕ → Held → ℕ → Type 0
MakesDuring makes at span held t = (makes span.2 ≡ Some held) × (span.0 ≤ t) × (t ≤ span.1) × (has_time at t ≡ true)

-- one of the spans does so
abbrev pub SpansMake : (ℕ → Option Held) → List (ℕ × ℕ) → List (ℕ × ℕ × ℕ) → Held → ℕ → Type 0
SpansMake makes at [] held t = ⊥
SpansMake makes at (span ∷ rest) held t = MakesDuring makes at span held t ⊎ SpansMake makes at rest held t

-- at a time of a set, from one time up to before another, the value of that time makes what is held
pub record ValueMakes (makes : ℕ → Option Held) (value : ℕ → ℕ) (at : List (ℕ × ℕ)) (from end : ℕ) (held : Held) (t : ℕ) : Type 0 where
  pub least : from ≤ t
  pub below : t < end
  pub in_set : has_time at t ≡ true
  pub made : makes (value t) ≡ Some held
