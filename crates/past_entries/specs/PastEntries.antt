-- Entries with the times at which they were made. Our own words.
use Rattle.std.specs.Prelude.{◌≡◌, ℕ, ◌<◌, ◌⊎◌, true, length, slice_index_or, List, [], ◌∷◌}
use Rattle.history_model.specs.CachedTranslations.{Held}
use Rattle.time_sets.specs.Sets.{has_time}
use Rattle.past_entries.specs.Fills.{FitsLevel, held_of_fill}
use Rattle.past_entries.specs.declared.entries.PastEntry.{PastEntry}
use Rattle.past_entries.specs.declared.fills.Fill.{Fill}

-- one of the entries is this one, and was made at the time
abbrev pub WasMade : List PastEntry → Held → ℕ → Type 0
WasMade [] held t = ⊥
WasMade (one ∷ rest) held t = ((held_of_fill one.fill ≡ held) × (has_time one.times t ≡ true)) ⊎ WasMade rest held t

-- each of the entries may be one of the level
abbrev pub AllFitLevel : ℕ → List PastEntry → Type 0
AllFitLevel level [] = Unit {0}
AllFitLevel level (one ∷ rest) = FitsLevel level one.fill × AllFitLevel level rest

-- an entry stands at a place of a list
pub record IsEntryPlace (entries : List PastEntry) (place : ℕ) (fill : Fill) : Type 0 where
  pub within : place < length entries
  pub one : PastEntry
  pub stands : one ≡ slice_index_or entries place one
  pub same : one.fill ≡ fill
