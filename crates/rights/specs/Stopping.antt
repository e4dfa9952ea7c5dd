-- Why a run stops, the line that it then writes, and its status.
use Rattle.std.specs.Prelude.{◌≡◌, ◌≢◌, ◌⊎◌, ℕ, List, [], ◌∷◌, ◌++◌, Option, None, Some, Result, Ok, Err, ⊤}
use Rattle.audit_core.specs.Standing.{Holding, StandsFor}
use Rattle.audit_core.specs.Stepping.{AcceptsEvent, RefusesEvent}
use Rattle.edit_log.specs.Reading.{Reading, Gives, Passes, Refuses}
use Rattle.edit_log.specs.declared.line_forms.LineFault.{LineFault}
use Rattle.edit_log.specs.declared.line_forms.LineFault.TheVariants as line
use Rattle.elf_core.specs.declared.faults.CoreFault.{CoreFault}
use Rattle.elf_core.specs.declared.faults.CoreFault.TheVariants as core
use Rattle.rights_report.specs.LogRefusals.{log_refusal_line}
use Rattle.rights_report.specs.FixedLines.{log_too_long_line}
use Rattle.history_model.specs.declared.answers.Answer.{Answer}
use Rattle.history_model.specs.declared.events.Event.{Event}
use Rattle.rights_report.specs.declared.refusals.Cause.TheVariants as cause
use Rattle.history_model.specs.declared.faults.StepFault.{StepFault}
use Rattle.history_model.specs.declared.faults.StepFault.TheVariants as step
use Rattle.history_model.specs.History.{History}
use Rattle.outside.specs.Shelf.{Known}
use Rattle.outside.specs.declared.reading.ReadFault.{ReadFault}
use Rattle.outside.specs.declared.reading.ReadFault.TheVariants as read
use Rattle.rights_report.specs.CoreRefusals.{core_refusal_line}
use Rattle.rights.specs.Ends.{Adds, AddsPrefix, AddsTruncated, Ends}
use Rattle.rights_report.specs.FixedLines.{core_too_long_line, usage_line}
use Rattle.rights.specs.HandledLines.{fault_cause}
use Rattle.rights.specs.Jobs.{Job, one_line, IsOutcomeOf, job_of_log, HasReached}
use Rattle.rights.specs.Run.{IsAccepted, check_job, job_of, MayBe}
use Rattle.rights.specs.declared.statuses.Status.{Status}
use Rattle.rights.specs.declared.statuses.Status.TheVariants.{Answered, CoreRefused, LogRefused, ReadFailed, WriteFailed, OutOfMemory, Usage as WrongUsage}
use Rattle.rights.specs.declared.stopping.Stop.{Stop}
use Rattle.rights.specs.declared.stopping.Stop.TheVariants.{Usage, LongCore, Core, Line, LongLog, Read, Put, Memory}

-- out of memory is no refusal, of a core, of a line, or of an event
abbrev pub stop_of_core : CoreFault → Stop
stop_of_core core.Memory = Memory
stop_of_core fault = Core fault

abbrev pub stop_of_line : ℕ → LineFault → Stop
stop_of_line number line.TooLong = Line number cause.TooLong
stop_of_line number line.Syntax = Line number cause.Syntax
stop_of_line number line.Memory = Memory

abbrev pub stop_of_event : ℕ → StepFault → Stop
stop_of_event number step.Memory = Memory
stop_of_event number fault = Line number (cause.Step fault)

abbrev pub stop_of_read : ReadFault → Stop
stop_of_read read.Device = Read
stop_of_read read.Memory = Memory

-- the line that is written last; none where reading, writing or memory failed
abbrev pub line_of : Stop → Option (List ℕ)
line_of Usage = Some usage_line
line_of LongCore = Some core_too_long_line
line_of (Core fault) = Some (core_refusal_line fault)
line_of (Line number why) = Some (log_refusal_line number why)
line_of LongLog = Some log_too_long_line
line_of Read = None
line_of Put = None
line_of Memory = None

-- the status of a run that stops so
abbrev pub status_of : Stop → Status
status_of Usage = WrongUsage
status_of LongCore = CoreRefused
status_of (Core fault) = CoreRefused
status_of (Line number why) = LogRefused
status_of LongLog = LogRefused
status_of Read = ReadFailed
status_of Put = WriteFailed
status_of Memory = OutOfMemory

-- how a run ends that went through or stops
abbrev pub end_of : Result Status Stop → Status
end_of (Ok status) = status
end_of (Err stop) = status_of stop

-- a run that is refused as a whole ends by one line, and so does a check
abbrev pub EndsByLine : Status → Type 0
EndsByLine status = (status ≡ WrongUsage) ⊎ (status ≡ CoreRefused) ⊎ (status ≡ LogRefused) ⊎ (status ≡ Answered)

-- the lines of what was handled were written, and one line is left, which ends the outcome
pub record LacksLine (job : Job) (before now : Option (List (List ℕ))) (line : List ℕ) (status : Status) : Type 0 where
  pub lines : List (List ℕ)
  pub reaches : HasReached job lines (line ∷ [])
  pub outcome_is : IsOutcomeOf job (record { lines = lines ++ line ∷ []; status = status })
  pub adds : Adds before now lines

abbrev pub StopsBy : Job → Option (List (List ℕ)) → Option (List (List ℕ)) → Option (List ℕ) → Status → Type 0
StopsBy job before now None status = Ends job before now status
StopsBy job before now (Some line) status = LacksLine job before now line status

-- how much of a job was written by a run that went through, or stops before its last line
abbrev pub EndsOrStops : Job → Option (List (List ℕ)) → Option (List (List ℕ)) → Result Status Stop → Type 0
EndsOrStops job before now (Ok status) = Ends job before now status
EndsOrStops job before now (Err stop) = StopsBy job before now (line_of stop) (status_of stop)

-- so much of the job of a core and a log was written; where the core is refused, the log isn't read
pub record StopsForFiles (core_known log_known : Known) (before now : Option (List (List ℕ))) (result : Result Status Stop) : Type 0 where
  pub core : List ℕ
  pub log : List ℕ
  pub core_is : MayBe core_known core
  pub log_is : IsAccepted core → MayBe log_known log
  pub stops : EndsOrStops (job_of core log) before now result

-- the line of an accepted core
pub record HasCoreLine (core_known : Known) (line : List ℕ) : Type 0 where
  pub core : List ℕ
  pub core_is : MayBe core_known core
  pub job_is : check_job core ≡ one_line line Answered

-- the line by which a core is refused
pub record RefusesCore (core_known : Known) (why : Stop) : Type 0 where
  pub core : List ℕ
  pub core_is : MayBe core_known core
  pub line : List ℕ
  pub line_is : line_of why ≡ Some line
  pub status_is : status_of why ≡ CoreRefused
  pub job_is : check_job core ≡ one_line line CoreRefused

-- a check has its line, or why it stops: the core is refused, or it couldn't be read or memory ran out
abbrev pub ChecksCore : Known → Result (List ℕ) Stop → Type 0
ChecksCore known (Ok line) = HasCoreLine known line
ChecksCore known (Err why) = (why ≡ Read) ⊎ (why ≡ Memory) ⊎ RefusesCore known why

-- so much of the job of a log was written, from a moment on
pub record StopsForLog (start : History) (log_known : Known) (before now : Option (List (List ℕ))) (result : Result Status Stop) : Type 0 where
  pub log : List ℕ
  pub log_is : MayBe log_known log
  pub stops : EndsOrStops (job_of_log start log) before now result

-- the last line was written
abbrev pub WritesLast : Option (List (List ℕ)) → Option (List (List ℕ)) → Option (List ℕ) → Status → Status → Type 0
WritesLast before now None status result = (now ≡ before) × (result ≡ status)
WritesLast before now (Some line) status result = Ends (one_line line status) before now result

-- all lines of an answer were put; or a put failed, or memory ran out, after a prefix of them
abbrev pub PutsLines : Option (List (List ℕ)) → Option (List (List ℕ)) → List (List ℕ) → Result (Unit {0}) Stop → Type 0
PutsLines before now lines (Ok done) = Adds before now lines
PutsLines before now lines (Err Put) = AddsTruncated before now lines
PutsLines before now lines (Err Memory) = AddsPrefix before now lines
PutsLines before now lines (Err stop) = ⊥

-- the next event, the end of the lines, or the refusal of a line; out of memory says nothing of it
abbrev pub ReadsNext : Reading → Reading → Result (Option Event) Stop → Type 0
ReadsNext old new (Ok (Some happened)) = Gives old new happened
ReadsNext old new (Ok None) = Passes old new
ReadsNext old new (Err (Line number why)) = (number ≡ new.taken) × ((fault : LineFault) × (fault_cause fault ≡ Some why) × Refuses old new fault)
ReadsNext old new (Err Memory) = ⊤
ReadsNext old new (Err stop) = ⊥

-- the event is accepted, and this is its answer; or why the run stops at the line of this number
abbrev pub HandlesEvent : Holding → Holding → Event → ℕ → Result Answer Stop → Type 0
HandlesEvent old new happened number (Ok answer) = AcceptsEvent StandsFor old new happened answer
HandlesEvent old new happened number (Err stop) =
    (fault : StepFault) × (stop ≡ stop_of_event number fault)
    × (fault ≢ step.Memory → RefusesEvent StandsFor old new happened fault)
