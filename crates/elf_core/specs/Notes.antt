-- Notes, one after another from the start of their segment. System V gABI, "Note Section"; fields of 4 bytes, each
-- note, name and description at a multiple of 4.
use Rattle.std.specs.Prelude.{ℕ, zero, suc, ◌+◌, ◌&&◌, ◌||◌, ◌==◌, nat_le, nat_lt, List, [], ◌∷◌, length, drop, slice_range, Bool, Option, Some, None, if◌then◌else◌}
use Rattle.std.specs.Int.{next_multiple_of}
use Rattle.elf_core.specs.Fields.{word_at}

-- a note: its type, the name of its owner, and its description
pub record NoteParts : Type 0 where
  pub kind : ℕ
  pub name : List ℕ
  pub description : List ℕ

-- of the note that bytes begin with: namesz at 0 and descsz at 4
abbrev pub name_size : List ℕ → ℕ
name_size bytes = word_at bytes 0

abbrev pub description_size : List ℕ → ℕ
description_size bytes = word_at bytes 4

-- the name stands after three fields, and the description after the name
abbrev pub name_end : List ℕ → ℕ
name_end bytes = 12 + name_size bytes

abbrev pub description_start : List ℕ → ℕ
description_start bytes = next_multiple_of (name_end bytes) 4

abbrev pub description_end : List ℕ → ℕ
description_end bytes = description_start bytes + description_size bytes

-- the name and the description lie in the segment; padding after them may be missing
abbrev pub is_whole : List ℕ → Bool
is_whole bytes =
    nat_le (name_end bytes) (length bytes)
    && (description_size bytes == 0 || nat_le (description_end bytes) (length bytes))

-- the type stands at 8
abbrev pub note_parts : List ℕ → NoteParts
note_parts bytes = record {
  kind = word_at bytes 8;
  name = slice_range bytes 12 (name_end bytes);
  description = slice_range bytes (description_start bytes) (description_end bytes);
}

-- the note that bytes begin with, and the bytes from the next note on; none where it passes the segment's end
unfoldable pub first_note : List ℕ → Option (NoteParts × List ℕ)
first_note bytes =
    if is_whole bytes then Some (note_parts bytes, drop (next_multiple_of (description_end bytes) 4) bytes) else None

-- a note and those after it; a note that passes the segment's end is none, and the last
abbrev pub note_before : (List ℕ → List (Option NoteParts)) → Option (NoteParts × List ℕ) → List (Option NoteParts)
note_before others None = None ∷ []
note_before others (Some note) = Some note.0 ∷ others note.1

-- the notes of a segment, at most so many; they end where fewer than 12 bytes are left
unfoldable pub first_notes : ℕ → List ℕ → List (Option NoteParts)
first_notes zero bytes = []
first_notes (suc count) bytes =
    if nat_lt (length bytes) 12 then [] else note_before (first_notes count) (first_note bytes)

-- the notes of a segment, of which there are no more than bytes
unfoldable pub all_notes : List ℕ → List (Option NoteParts)
all_notes bytes = first_notes (length bytes) bytes
