-- What a run has to write: one line, what a log says, or the summary of that.
use Rattle.std.specs.Prelude.{◌≡◌, ◌⊎◌, ℕ, Bool, List, [], ◌∷◌, length, nat_lt, take}
use Rattle.history_model.specs.History.{History}
use Rattle.rights.specs.HandledLines.{HandledPart, log_limit}
use Rattle.rights.specs.Outcome.{Outcome, output_of, SaysLog, SaysNext}
use Rattle.rights.specs.Summaries.{SaysSummary}
use Rattle.rights.specs.declared.statuses.Status.{Status}

-- one line, with which the run ends in a status; or the answers to a log from a moment on, of which these bytes are
-- read, and which has more or not; or the summary of the answers to a whole log
pub data Job : Type 0 where
  one_line : List ℕ → Status → Job
  answers : History → Bool → List ℕ → Job
  summary : History → List ℕ → Job

-- a log is read up to its limit
abbrev pub job_of_log : History → List ℕ → Job
job_of_log start log = answers start (nat_lt log_limit (length log)) (take log_limit log)

-- what is written, and how the run ends
abbrev pub IsOutcomeOf : Job → Outcome → Type 0
IsOutcomeOf (one_line line status) outcome = outcome ≡ record { lines = line ∷ []; status = status }
IsOutcomeOf (answers start more bytes) outcome = SaysLog start more bytes outcome
IsOutcomeOf (summary start log) outcome = SaysSummary start log outcome

-- how far a job may have come: these lines are those of the part that was handled, and these are written next; a summary
-- is written when all is handled
abbrev pub HasReached : Job → List (List ℕ) → List (List ℕ) → Type 0
HasReached (one_line line status) lines next = (lines ≡ []) × (next ≡ line ∷ [])
HasReached (answers start more bytes) lines next =
    (part : HandledPart start more bytes) × (lines ≡ output_of part.answers) × SaysNext part next
HasReached (summary start log) lines next =
    (lines ≡ []) × ((next ≡ []) ⊎ ((outcome : Outcome) × SaysSummary start log outcome × (next ≡ outcome.lines)))
