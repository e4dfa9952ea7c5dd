-- The notes that state the machine and its processors: those whose owner is X86RIGHTS.
use Rattle.std.specs.Prelude.{ℕ, ◌++◌, ◌&&◌, ◌==◌, not, nat_le, nat_lt, List, [], ◌∷◌, length, codes, Bool, Result, Ok, Err, if◌then◌else◌}
use Rattle.std.specs.List.{list_any}
use Rattle.std.specs.Str.{bytes_eq}
use Rattle.paging_model.specs.Registers.{machine_of, alignment_check}
use Rattle.paging_model.specs.RegisterRules.{check_of}
use Rattle.paging_model.specs.declared.registers.Machine.{Machine}
use Rattle.paging_model.specs.declared.registers.Regs.{Regs}
use Rattle.paging_model.specs.declared.registers.RegRule.{RegRule}
use Rattle.elf_core.specs.Fields.{word_at, xword_at}
use Rattle.elf_core.specs.Notes.{NoteParts}
use Rattle.elf_core.specs.ProcessorLists.{has_number}
use Rattle.elf_core.specs.declared.faults.NoteRule.{NoteRule}
use Rattle.elf_core.specs.declared.faults.NoteRule.TheVariants as rule
use Rattle.paging_model.specs.declared.registers.Processor.{Processor}
use Rattle.elf_core.specs.declared.core_file.Core.{Core}
use Rattle.elf_core.specs.declared.core_file.Statement.{Statement}
use Rattle.elf_core.specs.declared.core_file.Statement.TheVariants as statement

-- the owner's name of ten bytes
abbrev pub owner : List ℕ
owner = codes "X86RIGHTS" ++ 0 ∷ []

abbrev pub is_state_note : NoteParts → Bool
is_state_note note = bytes_eq note.name owner

-- the machine, type 1, of 8 bytes: the physical width at 0, and at 4 whether there are 1-GByte pages
abbrev pub width_at : List ℕ → ℕ
width_at description = word_at description 0

abbrev pub big_at : List ℕ → ℕ
big_at description = word_at description 4

abbrev pub is_machine : List ℕ → Bool
is_machine description =
    nat_le 32 (width_at description) && nat_le (width_at description) 52 && nat_lt (big_at description) 2

-- the machine that a note states, or the first rule that the note breaks
unfoldable pub machine_stated : Core → List ℕ → Result Machine NoteRule
machine_stated core description =
    if not (length description == 8) then Err rule.Size else
    (if not (is_machine description) then Err rule.Range else
    (if not (length core.processors == 0) then Err rule.Late else
    (if core.stated then Err rule.Twice else Ok (machine_of (width_at description) (big_at description == 1)))))

-- a processor, type 2, of 64 bytes: its number at 0, then CR0 at 8, CR3 at 16, CR4 at 24, EFER at 32, RFLAGS at 40,
-- PKRU at 48 and PKRS at 52
abbrev pub processor_number_at : List ℕ → ℕ
processor_number_at description = word_at description 0

abbrev pub regs_at : List ℕ → Regs
regs_at description = record {
  cr0 = xword_at description 8;
  cr3 = xword_at description 16;
  cr4 = xword_at description 24;
  efer = xword_at description 32;
  ac = alignment_check (xword_at description 40);
  pkru = word_at description 48;
  pkrs = word_at description 52;
}

-- the fields that are 0 by the layout, at 4 and at 56
abbrev pub has_zeros : List ℕ → Bool
has_zeros description = word_at description 4 == 0 && xword_at description 56 == 0

-- the processor, where the machine allows its registers
abbrev pub if_allowed : Processor → Result (Unit {0}) RegRule → Result Processor NoteRule
if_allowed processor (Ok _) = Ok processor
if_allowed processor (Err broken) = Err (rule.Regs broken)

-- the processor that a note states, or the first rule that the note breaks
unfoldable pub processor_stated : Core → List ℕ → Result Processor NoteRule
processor_stated core description =
    if not (length description == 64) then Err rule.Size else
    (if not (has_zeros description) then Err rule.Zero else
    (if list_any (has_number (processor_number_at description)) core.processors then Err rule.Twice else
    (if nat_le 64 (length core.processors) then Err rule.TooMany else
    if_allowed (record { number = processor_number_at description; regs = regs_at description })
    (check_of core.machine (regs_at description)))))

abbrev pub of_machine : Result Machine NoteRule → Result Statement NoteRule
of_machine (Ok machine) = Ok (statement.Machine machine)
of_machine (Err broken) = Err broken

abbrev pub of_processor : Result Processor NoteRule → Result Statement NoteRule
of_processor (Ok processor) = Ok (statement.Processor processor)
of_processor (Err broken) = Err broken

-- what a state note states after what is known, or the first rule that it breaks
unfoldable pub statement_of : Core → NoteParts → Result Statement NoteRule
statement_of core note =
    if note.kind == 1 then of_machine (machine_stated core note.description) else
    (if note.kind == 2 then of_processor (processor_stated core note.description) else Err rule.Kind)
