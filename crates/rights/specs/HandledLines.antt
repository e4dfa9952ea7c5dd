-- How the lines of a log are handled, one after another, and what is refused. (Our own format; docs/FORMATS.md.)
use Rattle.std.specs.Prelude.{◌≡◌, ℕ, ◌+◌, Bool, List, [], ◌∷◌, ◌++◌, length, Option, Some, None, option_map, Result, Ok, Err, nat_lt, if◌then◌else◌}
use Rattle.history_model.specs.Answering.{Answers}
use Rattle.history_model.specs.History.{History, after_event}
use Rattle.edit_log.specs.Log.{lines_of, whole_lines, rest_of}
use Rattle.edit_log.specs.LogLine.{event_of, line_limit}
use Rattle.edit_log.specs.declared.line_forms.LineFault.{LineFault}
use Rattle.edit_log.specs.declared.line_forms.LineFault.TheVariants as line_fault
use Rattle.history_model.specs.Refusals.{refusal}
use Rattle.rights_report.specs.LogRefusals.{log_refusal_line}
use Rattle.rights_report.specs.FixedLines.{log_too_long_line}
use Rattle.history_model.specs.declared.answers.Answer.{Answer}
use Rattle.history_model.specs.declared.events.Event.{Event}
use Rattle.rights_report.specs.declared.refusals.Cause.{Cause}
use Rattle.rights_report.specs.declared.refusals.Cause.TheVariants.{TooLong, Syntax, Step}

-- an event is accepted in a moment, and this is its answer
pub record IsAnswered (moment : History) (happened : Event) (answer : Answer) : Type 0 where
  pub accepted : refusal moment happened ≡ None
  pub answers : Answers moment happened answer

-- a line without an event is skipped; an accepted event has an answer, and the others follow in the moment after it
abbrev pub HandlesLine : (History → List Answer → Type 0) → History → Result (Option Event) LineFault → List Answer → Type 0
HandlesLine Rest moment (Ok None) answers = Rest moment answers
HandlesLine Rest moment (Ok (Some happened)) answers =
    (answer : Answer) × (others : List Answer) × IsAnswered moment happened answer
    × Rest (after_event happened moment) others × (answers ≡ answer ∷ others)
HandlesLine Rest moment (Err fault) answers = ⊥

-- lines are handled from a moment on, one after another, with these answers, and lead to a later moment
unfoldable pub Handles : History → List (List ℕ) → List Answer → History → Type 0
Handles moment [] answers later = (answers ≡ []) × (later ≡ moment)
Handles moment (line ∷ rest) answers later =
    HandlesLine (λ next others. Handles next rest others later) moment (event_of line) answers

-- the greatest length of a log, in bytes
abbrev pub log_limit : ℕ
log_limit = 268435456

-- the lines in the bytes that are read of a log: where it has more bytes, those that end in these
abbrev pub lines_read : Bool → List ℕ → List (List ℕ)
lines_read more bytes = if more then whole_lines bytes else lines_of bytes

-- a log that has more bytes is refused after those lines: by the line that goes past the limit, which has this number,
-- where that is too long already, else as a log
abbrev pub limit_refusal : Bool → List ℕ → ℕ → Option (List ℕ)
limit_refusal more bytes number =
    if more then Some (if nat_lt line_limit (length (rest_of bytes)) then log_refusal_line number TooLong else log_too_long_line)
    else None

-- a part of a log was handled: the first of its lines, from a moment on
pub record HandledPart (start : History) (more : Bool) (bytes : List ℕ) : Type 0 where
  pub lines : List (List ℕ)
  pub rest : List (List ℕ)
  pub log_is : lines_read more bytes ≡ lines ++ rest
  pub answers : List Answer
  pub moment : History
  pub handles : Handles start lines answers moment

-- why a line that gives no event is refused; out of memory is no refusal
abbrev pub fault_cause : LineFault → Option Cause
fault_cause line_fault.TooLong = Some TooLong
fault_cause line_fault.Syntax = Some Syntax
fault_cause line_fault.Memory = None

-- why a line is refused in a moment
abbrev pub cause_of : History → Result (Option Event) LineFault → Option Cause
cause_of moment (Ok None) = None
cause_of moment (Ok (Some happened)) = option_map Step (refusal moment happened)
cause_of moment (Err fault) = fault_cause fault

-- what is refused in a moment: the next line, which has this number, or at the end of the lines the log
abbrev pub refusal_in : History → ℕ → Option (List ℕ) → List (List ℕ) → Option (List ℕ)
refusal_in moment number at_end [] = at_end
refusal_in moment number at_end (line ∷ rest) = option_map (log_refusal_line number) (cause_of moment (event_of line))

-- what is refused after a part of a log
abbrev pub refusal_after : {start : History} {more : Bool} {bytes : List ℕ} → HandledPart start more bytes → Option (List ℕ)
refusal_after {more = more} {bytes = bytes} part =
    refusal_in part.moment (length part.lines + 1) (limit_refusal more bytes (length part.lines + 1)) part.rest

-- the next line has an event that is accepted, and this is its answer
abbrev pub AnswersNext : History → List (List ℕ) → Answer → Type 0
AnswersNext moment [] answer = ⊥
AnswersNext moment (line ∷ rest) answer =
    (happened : Event) × (event_of line ≡ Ok (Some happened)) × IsAnswered moment happened answer
