-- What comes of a write to a view.
use Rattle.std.specs.Prelude.{◌≡◌, ℕ, ◌+◌, ◌<◌, List, length, slice_index, Option, Some, None, false, if◌then◌else◌}
use Rattle.paging_model.specs.Memory.{Extent, byte_in}
use Rattle.block_pool.specs.Blocks.{Counts}
use Rattle.history_model.specs.History.{page_of, with_bytes, with_number}
use Rattle.history_model.specs.Refusals.{write_refusal}
use Rattle.history_model.specs.declared.faults.StepFault.{StepFault}
use Rattle.history_model.specs.declared.faults.StepFault.TheVariants as step_fault
use Rattle.phys_view.specs.Seen.{Seen, memory_of, is_written, written_pages}
use Rattle.phys_view.specs.declared.writes.WriteFault.{WriteFault}
use Rattle.phys_view.specs.declared.writes.WriteFault.TheVariants as write_fault

-- the reason for which an event that writes is refused
abbrev pub step_fault_of : WriteFault → StepFault
step_fault_of (write_fault.Unknown a) = step_fault.Unknown a
step_fault_of (write_fault.Crosses a) = step_fault.Crosses a
step_fault_of write_fault.OverlayFull = step_fault.OverlayFull
step_fault_of write_fault.Memory = step_fault.Memory

-- these bytes are the known ones of a page of a core; the others of them don't matter
abbrev pub HasKnown : List Extent → ℕ → List ℕ → Type 0
HasKnown extents page bytes =
    (k v : ℕ) → k < 4096 → byte_in extents (page + k) ≡ Some v → slice_index bytes k ≡ v

-- why so many bytes can't be written from an address on; that memory ran out is no such reason
abbrev pub refusal_of_write : Seen → ℕ → ℕ → Option StepFault
refusal_of_write seen at n = write_refusal (memory_of seen) (written_pages seen) at n

-- one page more, where the page of an address wasn't written to
abbrev pub new_pages : Seen → ℕ → ℕ
new_pages seen at = if is_written seen at then 0 else 1

-- the bytes were written: they stand in memory where it is known, and their page is a written one with a block of the pool
pub record WritesBytes (old new : Seen) (before after : Counts) (at : ℕ) (bytes : List ℕ) : Type 0 where
  pub unrefused : refusal_of_write old at (length bytes) ≡ None
  pub extents : new.extents ≡ old.extents
  pub memory : (a : ℕ) → memory_of new a ≡ with_bytes at bytes (memory_of old) a
  pub pages : written_pages new ≡ with_number (page_of at) (written_pages old)
  pub count : length new.written ≡ length old.written + new_pages old at
  pub live : after.live ≡ before.live + new_pages old at

-- the write is refused, or memory ran out: nothing changed but how many blocks are spare
pub record LeavesAll (old new : Seen) (before after : Counts) : Type 0 where
  pub view : new ≡ old
  pub live : after.live ≡ before.live

-- memory ran out at a write that isn't refused, to a page that wasn't written to before
pub record RunsOutAtWrite (seen : Seen) (at n : ℕ) : Type 0 where
  pub unrefused : refusal_of_write seen at n ≡ None
  pub unwritten : is_written seen at ≡ false
