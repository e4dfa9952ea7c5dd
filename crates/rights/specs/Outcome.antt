-- What is written for a log, and how the run ends; and how far that has come at some line. (Our own format;
-- docs/FORMATS.md.)
use Rattle.std.specs.Prelude.{◌≡◌, ◌⊎◌, ℕ, Bool, true, false, List, [], ◌∷◌, ◌++◌, flat_map, Some, if◌then◌else◌}
use Rattle.std.specs.List.{list_any}
use Rattle.history_model.specs.History.{History}
use Rattle.rights_report.specs.AnswerLines.{answer_lines}
use Rattle.history_model.specs.declared.answers.Answer.{Answer}
use Rattle.history_model.specs.declared.answers.Answer.TheVariants.{Verdict}
use Rattle.rights.specs.HandledLines.{HandledPart, refusal_after, AnswersNext}
use Rattle.rights.specs.declared.statuses.Status.{Status}
use Rattle.rights.specs.declared.statuses.Status.TheVariants.{Answered, Stale, LogRefused}

-- the lines that are written, each with its LF, and how the run ends
pub record Outcome : Type 0 where
  pub lines : List (List ℕ)
  pub status : Status

-- the lines of answers
abbrev pub output_of : List Answer → List (List ℕ)
output_of answers = flat_map answer_lines answers

-- a point's answer that has stale translations
abbrev pub has_findings : Answer → Bool
has_findings (Verdict (finding ∷ others)) = true
has_findings answer = false

-- how a log ends that is handled as a whole
abbrev pub end_status : Bool → Status
end_status stale = if stale then Stale else Answered

-- all lines of the log were handled
pub record SaysAll {start : History} {more : Bool} {bytes : List ℕ} (part : HandledPart start more bytes) (outcome : Outcome) : Type 0 where
  pub all : part.rest ≡ []
  pub within : more ≡ false
  pub outcome_is : outcome ≡ record { lines = output_of part.answers; status = end_status (list_any has_findings part.answers) }

-- the part of the log was handled, and what comes after it is refused
pub record SaysRefusal {start : History} {more : Bool} {bytes : List ℕ} (part : HandledPart start more bytes) (outcome : Outcome) : Type 0 where
  pub line : List ℕ
  pub refuses : refusal_after part ≡ Some line
  pub outcome_is : outcome ≡ record { lines = output_of part.answers ++ line ∷ []; status = LogRefused }

-- what is written for a log of which these bytes are read, and which has more or not: the answers to its lines, all or
-- up to a refusal
abbrev pub SaysLog : History → Bool → List ℕ → Outcome → Type 0
SaysLog start more bytes outcome = (part : HandledPart start more bytes) × (SaysAll part outcome ⊎ SaysRefusal part outcome)

-- what is written next after a part of the log: the answer to the next event, the refusal, or nothing so far
abbrev pub SaysNext : {start : History} {more : Bool} {bytes : List ℕ} → HandledPart start more bytes → List (List ℕ) → Type 0
SaysNext part next =
    (next ≡ []) ⊎ ((answer : Answer) × AnswersNext part.moment part.rest answer × (next ≡ answer_lines answer))
    ⊎ ((line : List ℕ) × (refusal_after part ≡ Some line) × (next ≡ line ∷ []))
