-- Flags of frames: where that of a frame isn't set, no record has the frame.
use Rattle.std.specs.Prelude.{◌≡◌, ℕ, ◌/◌, ◌%◌, Bool, true, false, List, Option, Some, slice_index_or}
use Rattle.frame_index.specs.Records.{record_in}
use Rattle.frame_index.specs.declared.counted_use.CountedUse.{CountedUse}

-- the flag of a frame, by the remainder of its number
abbrev pub frame_flag : List Bool → ℕ → Bool
frame_flag flags frame = slice_index_or flags (frame / 4096 % 65536) false

-- the flag of each record's frame is set
abbrev pub HaveFlags : List (Option CountedUse) → List Bool → Type 0
HaveFlags slots flags = (slot : ℕ) (one : CountedUse) → record_in slots slot ≡ Some one → frame_flag flags one.table.frame ≡ true
