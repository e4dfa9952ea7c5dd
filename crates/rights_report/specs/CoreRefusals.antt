-- The lines by which a core is refused, each with its LF. (Our own format; docs/FORMATS.md.)
use Rattle.std.specs.Prelude.{ℕ, List, [], ◌++◌, codes}
use Rattle.std.specs.Fmt.{decimal}
use Rattle.elf_core.specs.declared.faults.CoreFault.{CoreFault}
use Rattle.elf_core.specs.declared.faults.CoreFault.TheVariants as fault
use Rattle.elf_core.specs.declared.faults.NoteRule.{NoteRule}
use Rattle.elf_core.specs.declared.faults.NoteRule.TheVariants as rule
use Rattle.rights_report.specs.RefusalLines.{core_refusal, register_rule_text}

-- the rule that a state note breaks
abbrev pub note_rule_text : NoteRule → List ℕ
note_rule_text rule.Kind = codes "kind"
note_rule_text rule.Size = codes "size"
note_rule_text rule.Zero = codes "zero"
note_rule_text rule.Range = codes "range"
note_rule_text rule.Late = codes "late"
note_rule_text rule.Twice = codes "twice"
note_rule_text rule.TooMany = codes "too many"
note_rule_text (rule.Regs broken) = register_rule_text broken

-- the number of a header of notes, and the rule that a state note under it breaks
abbrev pub note_text : ℕ → List ℕ → List ℕ
note_text number broken = codes "note state " ++ (decimal number ++ (codes " " ++ broken))

-- why a core is refused, where by a program header with its number; out of memory is no refusal, and has no text
abbrev pub core_fault_text : CoreFault → List ℕ
core_fault_text fault.Short = codes "short"
core_fault_text fault.NotElf = codes "not elf"
core_fault_text fault.Class = codes "class"
core_fault_text fault.Encoding = codes "encoding"
core_fault_text fault.FileType = codes "type"
core_fault_text fault.FileMachine = codes "machine"
core_fault_text fault.HeaderSize = codes "header size"
core_fault_text fault.HeaderCount = codes "header count"
core_fault_text fault.HeaderRange = codes "header range"
core_fault_text (fault.SegmentRange number) = codes "segment range " ++ decimal number
core_fault_text (fault.SegmentAddress number) = codes "segment address " ++ decimal number
core_fault_text (fault.NoteRange number) = codes "note range " ++ decimal number
core_fault_text (fault.NoteState number broken) = note_text number (note_rule_text broken)
core_fault_text fault.Memory = []

-- the refusal of a core
abbrev pub core_refusal_line : CoreFault → List ℕ
core_refusal_line fault = core_refusal (core_fault_text fault)
