-- The core that a file states: known memory, the machine and its processors, or the first refusal.
use Rattle.std.specs.Prelude.{◌≡◌, ◌≢◌, ◌⊎◌, ◌≤◌, ℕ, zero, suc, ◌+◌, ◌++◌, List, [], ◌∷◌, length, All, AllPairs, true, false, Option, Some, None, Result, Ok, Err, if◌then◌else◌}
use Rattle.paging_model.specs.Memory.{Extent}
use Rattle.paging_model.specs.Registers.{machine_of}
use Rattle.paging_model.specs.RegisterRules.{check_of}
use Rattle.elf_core.specs.Steps.{◌>>=◌, steps_over}
use Rattle.elf_core.specs.FileHeader.{file_header_check, e_phnum}
use Rattle.elf_core.specs.ProgramHeaders.{program_header, is_load, is_note, segment_of, notes_of}
use Rattle.elf_core.specs.Notes.{NoteParts, all_notes}
use Rattle.elf_core.specs.StateNotes.{is_state_note, statement_of}
use Rattle.paging_model.specs.declared.registers.Machine.{Machine}
use Rattle.elf_core.specs.declared.core_file.Statement.{Statement}
use Rattle.elf_core.specs.declared.core_file.Statement.TheVariants as statement
use Rattle.elf_core.specs.declared.core_file.Core.{Core}
use Rattle.elf_core.specs.declared.faults.CoreFault.{CoreFault}
use Rattle.elf_core.specs.declared.faults.CoreFault.TheVariants.{NoteRange, NoteState, Memory}
use Rattle.elf_core.specs.declared.faults.NoteRule.{NoteRule}

-- the machine where no note states one: the greatest physical width, and 1-GByte pages
abbrev pub unstated_machine : Machine
unstated_machine = machine_of 52 true

-- what is known before the first program header
abbrev pub blank_core : Core
blank_core = record { segments = []; stated = false; machine = unstated_machine; processors = [] }

abbrev pub with_segment : Core → Option Extent → Core
with_segment core None = core
with_segment core (Some segment) = record core { segments = core.segments ++ segment ∷ [] }

abbrev pub with_statement : Core → Statement → Core
with_statement core (statement.Machine machine) = record core { stated = true; machine = machine }
with_statement core (statement.Processor processor) = record core { processors = core.processors ++ processor ∷ [] }

-- a statement is added, and a broken rule names the index of the header that its note is under
abbrev pub after_statement : ℕ → Core → Result Statement NoteRule → Result Core CoreFault
after_statement index core (Ok stated) = Ok (with_statement core stated)
after_statement index core (Err broken) = Err (NoteState index broken)

-- what is known after a note under the header of an index; notes of other owners say nothing
unfoldable pub after_note : ℕ → Core → Option NoteParts → Result Core CoreFault
after_note index core None = Err (NoteRange index)
after_note index core (Some note) =
    if is_state_note note then after_statement index core (statement_of core note) else Ok core

abbrev pub after_notes : ℕ → Core → List (Option NoteParts) → Result Core CoreFault
after_notes index core notes = steps_over (after_note index) core notes

-- what is known after the program header of an index; headers of other types say nothing
unfoldable pub after_header : List ℕ → Core → ℕ → Result Core CoreFault
after_header bytes core index =
    let header = program_header bytes index in
    if is_load header then (segment_of bytes index header >>= λ segment. Ok (with_segment core segment)) else
    (if is_note header then (notes_of bytes index header >>= λ notes. after_notes index core (all_notes notes)) else
    Ok core)

-- so many indices in order, from a first one on
abbrev pub indices_from : ℕ → ℕ → List ℕ
indices_from first zero = []
indices_from first (suc count) = first ∷ indices_from (first + 1) count

abbrev pub after_headers : List ℕ → Core → List ℕ → Result Core CoreFault
after_headers bytes core indices = steps_over (after_header bytes) core indices

-- the core that a file states, or why it is refused
unfoldable pub core_of : List ℕ → Result Core CoreFault
core_of bytes = file_header_check bytes >>= λ _. after_headers bytes blank_core (indices_from 0 (e_phnum bytes))

-- a refusal is the defined one; only `Memory` is no refusal of the file
abbrev pub IsRefusalOf : {A : Type 0} → Result A CoreFault → CoreFault → Type 0
IsRefusalOf defined fault = (fault ≡ Memory) ⊎ (defined ≡ Err fault)

-- at most 64 processors, each with a number of its own, and with registers that the machine allows
pub record IsConsistent (core : Core) : Type 0 where
  pub few : length core.processors ≤ 64
  pub distinct : AllPairs (λ one other. one.number ≢ other.number) core.processors
  pub allowed : All (λ processor. check_of core.machine processor.regs ≡ Ok tt) core.processors
  pub unstated : core.stated ≡ false → core.machine ≡ unstated_machine
