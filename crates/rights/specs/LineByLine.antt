-- What is written for a log, said one line after another. A law says that this is what is written for a log whose lines
-- were handled. (Our own format; docs/FORMATS.md.)
use Rattle.std.specs.Prelude.{◌≡◌, ℕ, ◌+◌, Bool, List, [], ◌∷◌, ◌++◌, Option, Some, None, Result, Ok, Err}
use Rattle.edit_log.specs.LogLine.{event_of}
use Rattle.edit_log.specs.declared.line_forms.LineFault.{LineFault}
use Rattle.history_model.specs.Answering.{Answers}
use Rattle.history_model.specs.History.{History, after_event}
use Rattle.history_model.specs.Refusals.{refusal}
use Rattle.history_model.specs.declared.answers.Answer.{Answer}
use Rattle.history_model.specs.declared.answers.Answer.TheVariants.{Verdict}
use Rattle.history_model.specs.declared.events.Event.{Event}
use Rattle.history_model.specs.declared.faults.StepFault.{StepFault}
use Rattle.rights.specs.HandledLines.{fault_cause, limit_refusal, lines_read}
use Rattle.rights.specs.Outcome.{Outcome}
use Rattle.rights.specs.declared.statuses.Status.{Status}
use Rattle.rights.specs.declared.statuses.Status.TheVariants.{Answered, Stale, LogRefused}
use Rattle.rights_report.specs.AnswerLines.{answer_lines}
use Rattle.rights_report.specs.LogRefusals.{log_refusal_line}
use Rattle.rights_report.specs.declared.refusals.Cause.{Cause}
use Rattle.rights_report.specs.declared.refusals.Cause.TheVariants.{Step}

-- a point with findings makes a run that ends well one with stale translations
abbrev pub status_with : Answer → Status → Status
status_with (Verdict (finding ∷ others)) Answered = Stale
status_with answer status = status

-- the lines of an answer come before the rest
abbrev pub before_the_rest : Answer → Outcome → Outcome
before_the_rest answer rest =
    record { lines = answer_lines answer ++ rest.lines; status = status_with answer rest.status }

-- nothing is looked at after a refusal
abbrev pub refused_by : List ℕ → Outcome
refused_by line = record { lines = line ∷ []; status = LogRefused }

-- an event is refused, or its answer is written and the rest follows in the moment after it
abbrev pub SaysEvent : (History → Outcome → Type 0) → History → ℕ → Event → Option StepFault → Outcome → Type 0
SaysEvent Rest moment number happened (Some fault) outcome =
    outcome ≡ refused_by (log_refusal_line number (Step fault))
SaysEvent Rest moment number happened None outcome =
    (answer : Answer) × (rest : Outcome) × Answers moment happened answer × Rest (after_event happened moment) rest
    × (outcome ≡ before_the_rest answer rest)

-- a line without an event is skipped, and one that spells none is refused
abbrev pub SaysLine : (History → Outcome → Type 0) → History → ℕ → Result (Option Event) LineFault → Outcome → Type 0
SaysLine Rest moment number (Ok None) outcome = Rest moment outcome
SaysLine Rest moment number (Ok (Some happened)) outcome =
    SaysEvent Rest moment number happened (refusal moment happened) outcome
SaysLine Rest moment number (Err fault) outcome =
    (cause : Cause) × (fault_cause fault ≡ Some cause) × (outcome ≡ refused_by (log_refusal_line number cause))

-- what is written for lines from a moment on, after so many lines before them; after the last of all it is what `end` says
unfoldable pub SaysLines : (ℕ → Outcome) → History → ℕ → List (List ℕ) → Outcome → Type 0
SaysLines end moment before [] outcome = outcome ≡ end before
SaysLines end moment before (line ∷ rest) outcome =
    SaysLine (λ later said. SaysLines end later (before + 1) rest said) moment (before + 1) (event_of line) outcome

-- after the last line a log ends well, or is refused at its limit
abbrev pub outcome_at_end : Option (List ℕ) → Outcome
outcome_at_end None = record { lines = []; status = Answered }
outcome_at_end (Some line) = refused_by line

-- what is written for a log of which these bytes are read, and which has more or not
abbrev pub SaysLineByLine : History → Bool → List ℕ → Outcome → Type 0
SaysLineByLine start more bytes outcome =
    SaysLines (λ before. outcome_at_end (limit_refusal more bytes (before + 1))) start 0 (lines_read more bytes) outcome
