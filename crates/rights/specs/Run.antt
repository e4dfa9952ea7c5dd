-- What a run writes for a core and a log, by what is known of their bytes.
use Rattle.std.specs.Prelude.{◌≡◌, ◌⊎◌, ℕ, List, Option, length, nat_lt, Result, Ok, Err, IsOk, ⊤, if◌then◌else◌}
use Rattle.audit_core.specs.Standing.{core_start}
use Rattle.elf_core.specs.Cores.{core_of}
use Rattle.elf_core.specs.declared.core_file.Core.{Core}
use Rattle.elf_core.specs.declared.faults.CoreFault.{CoreFault}
use Rattle.history_model.specs.History.{begun}
use Rattle.image_gen.specs.GeneratedCore.{generated_core}
use Rattle.image_gen.specs.LineTexts.{generated_log}
use Rattle.outside.specs.Shelf.{Known, unspecified, missing, has_bytes}
use Rattle.rights_report.specs.CoreLines.{core_line}
use Rattle.rights_report.specs.CoreRefusals.{core_refusal_line}
use Rattle.rights.specs.Ends.{Ends}
use Rattle.rights_report.specs.FixedLines.{core_too_long_line}
use Rattle.rights.specs.Jobs.{Job, one_line, summary, job_of_log, IsOutcomeOf}
use Rattle.rights.specs.Outcome.{Outcome}
use Rattle.rights.specs.Statuses.{code_of}
use Rattle.rights.specs.declared.statuses.Status.{Status}
use Rattle.rights.specs.declared.statuses.Status.TheVariants.{Answered, Stale, CoreRefused, ReadFailed, WriteFailed, OutOfMemory}

-- the greatest length of a core, in bytes
abbrev pub core_limit : ℕ
core_limit = 2147483648

-- a core that is read, or the line by which it is refused
abbrev pub or_refusal : Result Core CoreFault → Result Core (List ℕ)
or_refusal (Ok core) = Ok core
or_refusal (Err fault) = Err (core_refusal_line fault)

abbrev pub core_or_refusal : List ℕ → Result Core (List ℕ)
core_or_refusal core = if nat_lt core_limit (length core) then Err core_too_long_line else or_refusal (core_of core)

-- the core is within its limit and isn't refused
abbrev pub IsAccepted : List ℕ → Type 0
IsAccepted core = IsOk (core_or_refusal core)

-- the answers to the log from the moment that the core states, or the refusal of the core
abbrev pub job_by : Result Core (List ℕ) → List ℕ → Job
job_by (Ok core) log = job_of_log (begun (core_start core)) log
job_by (Err line) log = one_line line CoreRefused

abbrev pub job_of : List ℕ → List ℕ → Job
job_of core log = job_by (core_or_refusal core) log

-- the line that says what an accepted core states, or the refusal of the core
abbrev pub check_job_by : Result Core (List ℕ) → Job
check_job_by (Ok core) = one_line (core_line core) Answered
check_job_by (Err line) = one_line line CoreRefused

abbrev pub check_job : List ℕ → Job
check_job core = check_job_by (core_or_refusal core)

-- the summary of a log from the moment that an accepted core states, or the refusal of the core
abbrev pub summary_job : Result Core (List ℕ) → List ℕ → Job
summary_job (Ok core) log = summary (begun (core_start core)) log
summary_job (Err line) log = one_line line CoreRefused

-- the same of the core and the log that are generated from a seed
abbrev pub gen_job : ℕ → ℕ → Job
gen_job seed count = summary_job (core_or_refusal generated_core) (generated_log seed count)

-- what is written for a core and a log, and how the run ends
abbrev pub IsOutcome : List ℕ → List ℕ → Outcome → Type 0
IsOutcome core log outcome = IsOutcomeOf (job_of core log) outcome

-- a name may have these bytes, by what is known of it; a name that is known to be missing has none
abbrev pub MayBe : Known → List ℕ → Type 0
MayBe unspecified bytes = ⊤
MayBe missing bytes = ⊥
MayBe (has_bytes content) bytes = bytes ≡ content

-- what the bytes of the core and of the log say was written, as far as a run that ends so has it; where the core is
-- refused, the log isn't read
pub record EndsForFiles (core_known log_known : Known) (before now : Option (List (List ℕ))) (status : Status) : Type 0 where
  pub core : List ℕ
  pub log : List ℕ
  pub core_is : MayBe core_known core
  pub log_is : IsAccepted core → MayBe log_known log
  pub ends : Ends (job_of core log) before now status

-- what the bytes of the core say was written, as far as a check that ends so has it
pub record EndsForCore (core_known : Known) (before now : Option (List (List ℕ))) (status : Status) : Type 0 where
  pub core : List ℕ
  pub core_is : MayBe core_known core
  pub ends : Ends (check_job core) before now status

-- a run over a generated log ends by its summary, unless it can't be written or memory runs out
abbrev pub EndsBySummary : Status → Type 0
EndsBySummary status = (status ≡ Answered) ⊎ (status ≡ Stale) ⊎ (status ≡ WriteFailed) ⊎ (status ≡ OutOfMemory)

-- nothing was written, since a file couldn't be read or memory ran out
pub record IsUnread (before now : Option (List (List ℕ))) (status : Status) : Type 0 where
  pub nothing : now ≡ before
  pub why : (status ≡ ReadFailed) ⊎ (status ≡ OutOfMemory)

-- the program's exit status is that of an end that is so
abbrev pub EndsWith : ℕ → (Status → Type 0) → Type 0
EndsWith code Is = (status : Status) × (code ≡ code_of status) × Is status
