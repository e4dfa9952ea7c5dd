-- What a summary says of a log that was handled: how many events and answers of each kind it had. (Our own format;
-- docs/FORMATS.md.)
use Rattle.std.specs.Prelude.{◌≡◌, ℕ, List, [], ◌∷◌, length, flat_map, Option, Some, Result, Ok, Err, false}
use Rattle.std.specs.List.{list_any, sum_by}
use Rattle.edit_log.specs.LogLine.{event_of}
use Rattle.edit_log.specs.declared.line_forms.LineFault.{LineFault}
use Rattle.history_model.specs.History.{History, time}
use Rattle.history_model.specs.declared.answers.Answer.{Answer}
use Rattle.history_model.specs.declared.answers.Answer.TheVariants.{Asked, Listed, Verdict}
use Rattle.history_model.specs.declared.events.Event.{Event}
use Rattle.history_model.specs.declared.events.Event.TheVariants as event
use Rattle.rights_report.specs.SummaryLines.{summary_lines}
use Rattle.rights_report.specs.declared.summaries.Summary.{Summary}
use Rattle.rights.specs.HandledLines.{HandledPart}
use Rattle.rights.specs.Outcome.{end_status, has_findings, Outcome}

-- 1 for an event of a kind, else 0
abbrev pub writes_of : Event → ℕ
writes_of (event.Write at bytes) = 1
writes_of _ = 0

abbrev pub sets_of : Event → ℕ
sets_of (event.Set cpu change) = 1
sets_of _ = 0

abbrev pub invalidations_of : Event → ℕ
invalidations_of (event.Invlpg cpu address) = 1
invalidations_of (event.Invpcid cpu kind pcid address) = 1
invalidations_of _ = 0

-- 1 for an answer of a kind, else 0
abbrev pub granted_of : Answer → ℕ
granted_of (Asked (Ok address)) = 1
granted_of _ = 0

abbrev pub denied_of : Answer → ℕ
denied_of (Asked (Err why)) = 1
denied_of _ = 0

abbrev pub yes_of : Answer → ℕ
yes_of (Verdict []) = 1
yes_of _ = 0

abbrev pub no_of : Answer → ℕ
no_of (Verdict (finding ∷ others)) = 1
no_of _ = 0

-- the areas of a listing
abbrev pub areas_of : Answer → ℕ
areas_of (Listed areas) = length areas
areas_of _ = 0

-- the events of lines
abbrev pub event_in : Result (Option Event) LineFault → List Event
event_in (Ok (Some happened)) = happened ∷ []
event_in _ = []

abbrev pub events_of : List (List ℕ) → List Event
events_of lines = flat_map (λ line. event_in (event_of line)) lines

-- the summary of events and their answers, which led to a moment
abbrev pub summary_of : History → List Event → List Answer → Summary
summary_of moment events answers = record {
  events = time moment;
  writes = sum_by writes_of events;
  sets = sum_by sets_of events;
  invalidations = sum_by invalidations_of events;
  granted = sum_by granted_of answers;
  denied = sum_by denied_of answers;
  areas = sum_by areas_of answers;
  yes = sum_by yes_of answers;
  no = sum_by no_of answers;
}

-- a log is handled to its end, and the summary of that is written in place of the answers
pub record SaysSummary (start : History) (log : List ℕ) (outcome : Outcome) : Type 0 where
  pub part : HandledPart start false log
  pub all : part.rest ≡ []
  pub outcome_is : outcome ≡ record {
    lines = summary_lines (summary_of part.moment (events_of part.lines) part.answers);
    status = end_status (list_any has_findings part.answers);
  }
