-- Spans of time, through each of which something had one value. Our own words.
use Rattle.std.specs.Prelude.{◌≡◌, ◌≢◌, ℕ, ◌+◌, ◌≤◌, ◌==◌, List, [], ◌∷◌, Option, Some, if◌then◌else◌}

-- a span from a time on, with the value at its times
pub record IsSpan (value : ℕ → ℕ) (low : ℕ) (span : ℕ × ℕ × ℕ) : Type 0 where
  pub begins : span.0 ≡ low
  pub order : span.0 ≤ span.1
  pub same : (t : ℕ) → span.0 ≤ t → t ≤ span.1 → value t ≡ span.2

-- spans that cover the times from one up to before another, each with another value than the one before it
abbrev pub AreSpans : (ℕ → ℕ) → Option ℕ → ℕ → ℕ → List (ℕ × ℕ × ℕ) → Type 0
AreSpans value before low end [] = low ≡ end
AreSpans value before low end (span ∷ rest) =
    IsSpan value low span × (before ≢ Some span.2) × AreSpans value (Some span.2) (span.1 + 1) end rest

-- spans and one more at the end, or the last one longer if it has the same value
abbrev pub grown : List (ℕ × ℕ × ℕ) → ℕ → ℕ → ℕ → List (ℕ × ℕ × ℕ)
grown [] first last value = (first, last, value) ∷ []
grown (one ∷ []) first last value =
    if one.2 == value then (one.0, last, one.2) ∷ [] else one ∷ (first, last, value) ∷ []
grown (one ∷ two ∷ rest) first last value = one ∷ grown (two ∷ rest) first last value
