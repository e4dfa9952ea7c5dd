-- Program headers, and the parts of the file that they name: segments of memory, and notes.
-- System V gABI, "Program Header".
use Rattle.std.specs.Prelude.{ℕ, ◌+◌, ◌*◌, ◌^◌, ◌||◌, ◌==◌, not, nat_le, List, [], length, slice_range, Bool, Option, Some, None, Result, Ok, Err, if◌then◌else◌}
use Rattle.paging_model.specs.Memory.{Extent}
use Rattle.elf_core.specs.Fields.{word_at, xword_at}
use Rattle.elf_core.specs.FileHeader.{e_phoff}
use Rattle.elf_core.specs.declared.headers.ProgramHeader.{ProgramHeader}
use Rattle.elf_core.specs.declared.faults.CoreFault.{CoreFault}
use Rattle.elf_core.specs.declared.faults.CoreFault.TheVariants.{SegmentRange, SegmentAddress, NoteRange}

-- the header of 56 bytes at an offset: p_type at 0, p_offset at 8, p_paddr at 24, p_filesz at 32
abbrev pub program_header_at : List ℕ → ℕ → ProgramHeader
program_header_at bytes offset = record {
  kind = word_at bytes offset;
  offset = xword_at bytes (offset + 8);
  physical = xword_at bytes (offset + 24);
  file_size = xword_at bytes (offset + 32);
}

-- the header of an index, from 0 on
abbrev pub program_header : List ℕ → ℕ → ProgramHeader
program_header bytes index = program_header_at bytes (e_phoff bytes + 56 * index)

-- p_type PT_LOAD: memory
abbrev pub is_load : ProgramHeader → Bool
is_load header = header.kind == 1

-- p_type PT_NOTE: notes
abbrev pub is_note : ProgramHeader → Bool
is_note header = header.kind == 4

-- memory without bytes in the file, or without a physical address, says nothing
abbrev pub is_skipped_header : ProgramHeader → Bool
is_skipped_header header = header.file_size == 0 || header.physical == 0xffffffffffffffff

-- the header's bytes lie in the file
abbrev pub is_in_file : List ℕ → ProgramHeader → Bool
is_in_file bytes header = nat_le (header.offset + header.file_size) (length bytes)

-- memory ends within the greatest physical width, of 52 bits
abbrev pub is_below_the_width : ProgramHeader → Bool
is_below_the_width header = nat_le (header.physical + header.file_size) (2 ^ 52)

-- the header's bytes in the file
abbrev pub contents : List ℕ → ProgramHeader → List ℕ
contents bytes header = slice_range bytes header.offset (header.offset + header.file_size)

-- the segment of memory that the PT_LOAD header of an index places; none where it is skipped
unfoldable pub segment_of : List ℕ → ℕ → ProgramHeader → Result (Option Extent) CoreFault
segment_of bytes index header =
    if is_skipped_header header then Ok None else
    (if not (is_in_file bytes header) then Err (SegmentRange index) else
    (if not (is_below_the_width header) then Err (SegmentAddress index) else
    Ok (Some (record { start = header.physical; bytes = contents bytes header }))))

-- the bytes of the notes that the PT_NOTE header of an index names; a header without bytes has none, wherever it lies
unfoldable pub notes_of : List ℕ → ℕ → ProgramHeader → Result (List ℕ) CoreFault
notes_of bytes index header =
    if header.file_size == 0 then Ok [] else
    (if not (is_in_file bytes header) then Err (NoteRange index) else Ok (contents bytes header))
