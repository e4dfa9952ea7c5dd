-- Known memory and its past, and what a write leaves of both. (Our own words.)
use Rattle.std.specs.Prelude.{◌≡◌, ℕ, ◌+◌, ◌≤◌, List, length}
use Rattle.paging_model.specs.Memory.{Memory}
use Rattle.paging_model.specs.declared.spaces.SpaceKey.{SpaceKey}
use Rattle.history_model.specs.Bounds.{UpdatesMayTake}
use Rattle.history_model.specs.History.{with_bytes}
use Rattle.history_model.specs.KeptSpaces.{slots_written}
use Rattle.block_pool.specs.Blocks.{Counts}
use Rattle.phys_view.specs.Seen.{Seen, memory_of}
use Rattle.phys_view.specs.Writes.{WritesBytes}
use Rattle.version_store.specs.Changes.{KeptChanges, with_changes}
use Rattle.version_store.specs.WrittenChanges.{first_slot, touched_entries}

-- what memory holds, and the changes that are kept
pub record Remembering : Type 0 where
  pub seen : Seen
  pub kept : KeptChanges

-- bytes were written at a time, and what their slots held is kept
pub record KeepsWrite (old new : Remembering) (now at : ℕ) (bytes : List ℕ) : Type 0 where
  pub before : Counts
  pub after : Counts
  pub writes : WritesBytes old.seen new.seen before after at bytes
  pub keeps : new.kept ≡ with_changes old.kept (first_slot at) (touched_entries (memory_of old.seen) at (length bytes)) now

-- a write takes as many steps as the updates of these spaces may take, and one for each slot that it touches
pub record WriteTakes (memory : Memory) (at : ℕ) (bytes : List ℕ) (keys : List SpaceKey) (old new : ℕ) : Type 0 where
  pub updates : ℕ
  pub may : UpdatesMayTake (with_bytes at bytes memory) at (length bytes) keys updates
  pub bound : new ≤ old + (updates + slots_written at (length bytes))
