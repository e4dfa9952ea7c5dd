-- The lines by which a line of a log, or a log, is refused, each with its LF. (Our own format; docs/FORMATS.md.)
use Rattle.std.specs.Prelude.{ℕ, List, [], ◌++◌, codes}
use Rattle.std.specs.Fmt.{decimal}
use Rattle.history_model.specs.declared.faults.StepFault.{StepFault}
use Rattle.history_model.specs.declared.faults.StepFault.TheVariants as fault
use Rattle.rights_report.specs.Characters.{hexadecimal}
use Rattle.rights_report.specs.RefusalLines.{line_refusal, register_rule_text}
use Rattle.rights_report.specs.declared.refusals.Cause.{Cause}
use Rattle.rights_report.specs.declared.refusals.Cause.TheVariants.{TooLong, Syntax, Step}

-- why an event is refused; out of memory is no refusal, and has no text
abbrev pub fault_text : StepFault → List ℕ
fault_text fault.LateState = codes "late state"
fault_text (fault.DoubleProcessor cpu) = codes "double processor " ++ decimal cpu
fault_text fault.TooManyProcessors = codes "too many processors"
fault_text (fault.NoProcessor cpu) = codes "no processor " ++ decimal cpu
fault_text fault.BadType = codes "bad type"
fault_text fault.BadPcid = codes "bad pcid"
fault_text fault.NotCanonical = codes "not canonical"
fault_text (fault.Illegal rule) = codes "illegal " ++ register_rule_text rule
fault_text (fault.Unknown address) = codes "unknown " ++ hexadecimal address
fault_text (fault.Crosses address) = codes "crosses " ++ hexadecimal address
fault_text fault.OverlayFull = codes "overlay full"
fault_text fault.Memory = []

-- why a line is refused
abbrev pub cause_text : Cause → List ℕ
cause_text TooLong = codes "too long"
cause_text Syntax = codes "syntax"
cause_text (Step fault) = fault_text fault

-- the refusal of a line of the log, by its number from 1
abbrev pub log_refusal_line : ℕ → Cause → List ℕ
log_refusal_line number cause = line_refusal number (cause_text cause)
