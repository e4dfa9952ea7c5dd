-- The summary of a generated log, and how it is counted. (Our own format; docs/FORMATS.md.)
use Rattle.std.specs.Prelude.{◌≡◌, ℕ, ◌+◌, ◌≤◌, List, [], ◌++◌, length, map, false, true, None, Some, Ok}
use Rattle.audit_core.specs.Standing.{Holding, StandsFor}
use Rattle.edit_log.specs.Log.{lines_of}
use Rattle.edit_log.specs.LogLine.{event_of}
use Rattle.edit_log.specs.Reading.{Reading, left_of}
use Rattle.history_model.specs.History.{History, begun}
use Rattle.history_model.specs.declared.answers.Answer.{Answer}
use Rattle.history_model.specs.declared.events.Event.{Event}
use Rattle.image_gen.specs.Accepted.{AreAccepted, generated_start}
use Rattle.image_gen.specs.LineTexts.{generated_log}
use Rattle.rights_report.specs.declared.summaries.Summary.{Summary}
use Rattle.rights.specs.HandledLines.{HandledPart, Handles}
use Rattle.rights.specs.Summaries.{areas_of, denied_of, events_of, granted_of, invalidations_of, no_of, sets_of, summary_of, writes_of, yes_of}

-- a generated log was handled to its end, and this is the summary
pub record IsSummaryOf (seed count : ℕ) (summary : Summary) : Type 0 where
  pub part : HandledPart (begun generated_start) false (generated_log seed count)
  pub all : part.rest ≡ []
  pub summary_is : summary ≡ summary_of part.moment (events_of part.lines) part.answers

-- a summary with one event more, and with one answer more
abbrev pub with_event : Event → Summary → Summary
with_event happened sum = record sum {
  writes = sum.writes + writes_of happened;
  sets = sum.sets + sets_of happened;
  invalidations = sum.invalidations + invalidations_of happened;
}

abbrev pub with_answer : Answer → Summary → Summary
with_answer answer sum = record sum {
  granted = sum.granted + granted_of answer;
  denied = sum.denied + denied_of answer;
  areas = sum.areas + areas_of answer;
  yes = sum.yes + yes_of answer;
  no = sum.no + no_of answer;
}

-- Some lines of a generated log were handled and counted; the others are left to the reader, each with an event that isn't
-- refused. Events are counted at the end.
pub record IsCounted (seed count : ℕ) (holding : Holding) (reading : Reading) (summary : Summary) : Type 0 where
  pub lines : List (List ℕ)
  pub left : List (List ℕ)
  pub log_is : lines_of (generated_log seed count) ≡ lines ++ left
  pub answers : List Answer
  pub moment : History
  pub handles : Handles (begun generated_start) lines answers moment
  pub stands : StandsFor holding moment
  pub reads : left ≡ left_of reading
  pub going : reading.refused ≡ None
  pub finished : reading.finished ≡ true
  pub events : List Event
  pub spelled : map event_of left ≡ map (λ happened. Ok (Some happened)) events
  pub accepted : AreAccepted moment events
  pub few : holding.happened + length events ≤ 100000
  pub counts : record summary { events = 0 } ≡ record (summary_of moment (events_of lines) answers) { events = 0 }
