-- The changes that the writes of a history make, and what they tell of its moments. Our own words.
use Rattle.std.specs.Prelude.{◌≡◌, ℕ, zero, suc, ◌+◌, ◌*◌, ◌/◌, ◌%◌, ◌≤◌, List, [], ◌∷◌, length, Option, Some}
use Rattle.paging_model.specs.Memory.{Memory, entry_at}
use Rattle.history_model.specs.History.{History, begun, next, memory, time}
use Rattle.history_model.specs.KeptSpaces.{slots_written}
use Rattle.history_model.specs.declared.events.Event.{Event}
use Rattle.history_model.specs.declared.events.Event.TheVariants as event
use Rattle.history_laws.specs.MomentsByTime.{moment_at}
use Rattle.version_store.specs.Changes.{KeptChanges, with_changes, value_at}

-- the first slot that a write from an address on touches
abbrev pub first_slot : ℕ → ℕ
first_slot at = at / 8 * 8

-- what so many slots hold, one after another, from one on
abbrev pub entries_from : Memory → ℕ → ℕ → List (Option ℕ)
entries_from memory slot zero = []
entries_from memory slot (suc n) = entry_at memory slot ∷ entries_from memory (slot + 8) n

-- what the slots that a write of so many bytes touches hold
abbrev pub touched_entries : Memory → ℕ → ℕ → List (Option ℕ)
touched_entries memory at n = entries_from memory (first_slot at) (slots_written at n)

-- kept changes and those that an event makes after a moment: one of each slot that it touches and whose bytes are all known
abbrev pub with_changes_of : Event → History → KeptChanges → KeptChanges
with_changes_of (event.Write at bytes) before kept =
    with_changes kept (first_slot at) (touched_entries (memory before) at (length bytes)) (time before + 1)
with_changes_of _ before kept = kept

-- the changes that all writes of a history make
abbrev pub kept_changes : History → KeptChanges
kept_changes (begun start) = []
kept_changes (next before happened) = with_changes_of happened before (kept_changes before)

-- kept changes and the present memory tell what each slot held at each time from one on
pub record TellValues (kept : KeptChanges) (since : ℕ) (history : History) : Type 0 where
  pub values : (slot present t : ℕ) → slot % 8 ≡ 0 → since ≤ t → t ≤ time history
      → entry_at (memory history) slot ≡ Some present
      → entry_at (memory (moment_at history t)) slot ≡ Some (value_at kept slot present t)
