-- The generated core is read, step by step.
use Rattle.std.proofs.Common.{◌≡◌, ℕ, zero, suc, ◌+◌, ◌-◌, ◌*◌, ◌==◌, nat_le, nat_lt, nat_eq, List, [], ◌∷◌, ◌++◌, length, drop, take, true, false, Some, Ok, refl, ap, ◌∙◌, arith}
use Rattle.std.proofs.lemmas.List.{length-append, take_all}
use Rattle.std.specs.List.{slice_range, starts_with}
use Rattle.paging_model.specs.Memory.{Extent}
use Rattle.elf_core.specs.FileHeader.{e_machine, e_phentsize, e_phnum, e_phoff, e_type, ei_class, ei_data, file_header_check, kind_check, magic, table_check}
use Rattle.elf_core.specs.ProgramHeaders.{contents, is_below_the_width, is_in_file, is_load, is_note, is_skipped_header, notes_of, program_header, segment_of}
use Rattle.elf_core.specs.Notes.{all_notes, first_note, first_notes}
use Rattle.elf_core.specs.StateNotes.{machine_stated, processor_stated, statement_of}
use Rattle.paging_model.specs.Registers.{machine_of}
use Rattle.elf_core.specs.Cores.{after_header, after_note, after_notes, blank_core, core_of, with_segment}
use Rattle.elf_core.specs.Steps.{steps_over}
use Rattle.elf_core.specs.declared.core_file.Core.{Core}
use Rattle.elf_core.specs.declared.headers.ProgramHeader.{ProgramHeader}
use Rattle.image_gen.specs.GeneratedCore.{generated_core, headers, machine_description, memory_bytes, memory_from, memory_slots, processor_description, state_note}
use Rattle.image_gen.proofs.CoreBytes.{memory-is, memory-slots-are}
use Rattle.image_gen.specs.StatedCore.{stated_core, stated_processor}

-- a file whose fields are right
kind-right : (bytes : List ℕ) → nat_lt (length bytes) 64 ≡ false → starts_with nat_eq bytes magic ≡ true
    → ei_class bytes ≡ 2 → ei_data bytes ≡ 1 → e_type bytes ≡ 4 → e_machine bytes ≡ 62 → kind_check bytes ≡ Ok tt
unfolding kind_check
kind-right bytes long elf class order kind machine = rw (long, elf, class, order, kind, machine) refl

table-right : (bytes : List ℕ) → e_phentsize bytes ≡ 56 → e_phnum bytes ≡ 2 → e_phoff bytes ≡ 64 → nat_lt (length bytes) 176 ≡ false
    → table_check bytes ≡ Ok tt
unfolding table_check
table-right bytes size count offset long = rw (size, count, offset, long) refl

header-right : (bytes : List ℕ) → kind_check bytes ≡ Ok tt → table_check bytes ≡ Ok tt → file_header_check bytes ≡ Ok tt
unfolding file_header_check
header-right bytes kind table = rw (kind, table) refl

-- a part of the file that lies in it
in-file : (bytes : List ℕ) (header : ProgramHeader) (n : ℕ) → length bytes ≡ n → nat_le (header.offset + header.file_size) n ≡ true
    → is_in_file bytes header ≡ true
in-file bytes header n long within = ap (λ (k : ℕ). nat_le (header.offset + header.file_size) k) long ∙ within

notes-right : (bytes : List ℕ) (index : ℕ) (header : ProgramHeader) → (header.file_size == 0) ≡ false → is_in_file bytes header ≡ true
    → notes_of bytes index header ≡ Ok (contents bytes header)
unfolding notes_of
notes-right bytes index header some within = rw (some, within) refl

segment-right : (bytes : List ℕ) (index : ℕ) (header : ProgramHeader) → is_skipped_header header ≡ false → is_in_file bytes header ≡ true
    → is_below_the_width header ≡ true
    → segment_of bytes index header ≡ Ok (Some (record { start = header.physical; bytes = contents bytes header }))
unfolding segment_of
segment-right bytes index header some within low = rw (some, within, low) refl

module _ (bytes : List ℕ) (core : Core) (index : ℕ) where
  after-notes : (next : Core) (notes : List ℕ) → is_load (program_header bytes index) ≡ false → is_note (program_header bytes index) ≡ true
      → notes_of bytes index (program_header bytes index) ≡ Ok notes → after_notes index core (all_notes notes) ≡ Ok next
      → after_header bytes core index ≡ Ok next
  unfolding after_header
  after-notes next notes load note are all = rw (load, note, are) all

  after-segment : (extent : Extent) → is_load (program_header bytes index) ≡ true
      → segment_of bytes index (program_header bytes index) ≡ Ok (Some extent)
      → after_header bytes core index ≡ Ok (with_segment core (Some extent))
  unfolding after_header
  after-segment extent load is = rw (load, is) refl

two-headers : (bytes : List ℕ) (one two : Core) → file_header_check bytes ≡ Ok tt → e_phnum bytes ≡ 2
    → after_header bytes blank_core 0 ≡ Ok one → after_header bytes one 1 ≡ Ok two → core_of bytes ≡ Ok two
unfolding core_of steps_over
two-headers bytes one two header count first second = rw (header, count, first, second) refl

length-memory_from : (a n : ℕ) → length (memory_from a n) ≡ 8 * n
length-memory_from a zero = refl
length-memory_from a (suc n) = omega (arith, length-memory_from (a + 8) n)

-- 1 MByte
pub memory-length : length memory_bytes ≡ 1048576
memory-length = ap length memory-is ∙ length-memory_from 0 memory_slots ∙ ap (λ (n : ℕ). 8 * n) memory-slots-are

pub core-length : length generated_core ≡ 1048960
core-length = length-append headers memory_bytes ∙ ap (λ (n : ℕ). 384 + n) memory-length

header-is-right : file_header_check generated_core ≡ Ok tt
header-is-right =
    header-right generated_core
    (kind-right generated_core (ap (λ (n : ℕ). nat_lt n 64) core-length) refl refl refl refl refl)
    (table-right generated_core refl refl refl (ap (λ (n : ℕ). nat_lt n 176) core-length))

-- what the notes state
notes : List ℕ
notes = state_note 1 machine_description ++ state_note 2 (processor_description 0) ++ state_note 2 (processor_description 1)

notes-are : notes_of generated_core 0 (program_header generated_core 0) ≡ Ok notes
unfolding notes
notes-are =
    notes-right generated_core 0 (program_header generated_core 0) refl
    (in-file generated_core (program_header generated_core 0) 1048960 core-length refl)

after-first : Core
after-first = record { segments = []; stated = true; machine = machine_of 40 true; processors = stated_processor 0 ∷ stated_processor 1 ∷ [] }

notes-state : after_notes 0 blank_core (all_notes notes) ≡ Ok after-first
unfolding notes after-first all_notes first_notes first_note after_note statement_of machine_stated processor_stated steps_over
notes-state = refl

first-is : after_header generated_core blank_core 0 ≡ Ok after-first
first-is = after-notes generated_core blank_core 0 after-first notes refl refl notes-are notes-state

-- what stands after a place, up to the end
slice-rest : (xs rest : List ℕ) (from until : ℕ) → drop from xs ≡ rest → length rest ≡ until - from → slice_range xs from until ≡ rest
slice-rest xs rest from until after long =
    ap (λ (ys : List ℕ). take (until - from) ys) after ∙ take_all (until - from) rest (omega (arith, long))

contents-are : contents generated_core (program_header generated_core 1) ≡ memory_bytes
contents-are = slice-rest generated_core memory_bytes 384 1048960 refl memory-length

second-is : after_header generated_core after-first 1 ≡ Ok stated_core
unfolding after-first
second-is =
    after-segment generated_core after-first 1 (record { start = 0; bytes = contents generated_core (program_header generated_core 1) })
    refl
    (segment-right generated_core 1 (program_header generated_core 1) refl
    (in-file generated_core (program_header generated_core 1) 1048960 core-length refl) refl)
    ∙ ap (λ (bytes : List ℕ). Ok (with_segment after-first (Some (record { start = 0; bytes = bytes })))) contents-are

pub core-is-accepted : core_of generated_core ≡ Ok stated_core
core-is-accepted = two-headers generated_core after-first stated_core header-is-right refl first-is second-is
