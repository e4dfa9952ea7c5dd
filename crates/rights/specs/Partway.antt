-- How far a log is handled whose bytes come in pieces. What was handled stays so whatever bytes follow.
use Rattle.std.specs.Prelude.{◌≡◌, ℕ, ◌+◌, ◌≤◌, List, [], ◌++◌, length, Bool, true, false, not, ◌||◌, Option, None, Result, Ok, Err}
use Rattle.std.specs.List.{list_any}
use Rattle.audit_core.specs.Standing.{Holding, StandsFor}
use Rattle.edit_log.specs.Log.{has_end, rest_of}
use Rattle.edit_log.specs.LogLine.{line_limit}
use Rattle.edit_log.specs.Reading.{Reading, left_of}
use Rattle.history_model.specs.History.{History}
use Rattle.rights.specs.Ends.{Adds}
use Rattle.rights.specs.HandledLines.{HandledPart, log_limit}
use Rattle.rights.specs.Jobs.{answers}
use Rattle.rights.specs.Outcome.{has_findings, output_of}
use Rattle.rights.specs.Stopping.{EndsOrStops}
use Rattle.rights.specs.declared.stopping.Stop.{Stop}

-- a reader as it will be once it is fed the bytes that follow, after which the log has more or not
abbrev pub fed_all : Reading → List ℕ → Bool → Reading
fed_all reading unread more =
    record { rest = reading.rest ++ unread; taken = reading.taken; finished = not more; refused = reading.refused }

-- nothing follows the end of a log
abbrev pub MayFollow : Reading → List ℕ → Bool → Type 0
MayFollow reading unread more = reading.finished ≡ true → (unread ≡ []) × (more ≡ false)

-- a part of the log was handled, its output was put, and the reader and the session stand after it
pub record Partway (start : History) (more : Bool) (log : List ℕ) (holding : Holding) (before now : Option (List (List ℕ))) (reading : Reading) (stale : Bool) : Type 0 where
  pub part : HandledPart start more log
  pub stands : StandsFor holding part.moment
  pub adds : Adds before now (output_of part.answers)
  pub left : part.rest ≡ left_of reading
  pub count : reading.taken ≡ length part.lines
  pub stale_is : stale ≡ list_any has_findings part.answers

-- a reader of a log that refused no line so far
pub record IsGoing (more : Bool) (log : List ℕ) (reading : Reading) : Type 0 where
  pub unrefused : reading.refused ≡ None
  pub complete : reading.finished ≡ not more
  pub after : reading.finished ≡ false → rest_of log ≡ rest_of reading.rest
  pub few : reading.taken + length reading.rest ≤ length log
  pub limit : length log ≤ log_limit

-- a part of the log was handled, of which the reader was fed all but the bytes that follow
pub record IsPartway (start : History) (more : Bool) (log unread : List ℕ) (holding : Holding) (before now : Option (List (List ℕ))) (reading : Reading) (stale : Bool) : Type 0 where
  pub may_follow : MayFollow reading unread more
  pub partway : Partway start more log holding before now (fed_all reading unread more) stale
  pub going : IsGoing more log (fed_all reading unread more)

-- all lines that have come to their end are taken, and what is left is not too long for a line
pub record IsReady (reading : Reading) : Type 0 where
  pub unrefused : reading.refused ≡ None
  pub none : left_of reading ≡ []
  pub no_end : has_end reading.rest ≡ false
  pub short : length reading.rest ≤ line_limit

-- more of a log was handled, some points of it with stale translations or none; or the run stops within it
abbrev pub Handled : History → Bool → List ℕ → List ℕ → Holding → Option (List (List ℕ)) → Option (List (List ℕ)) → Reading → Bool → Result Bool Stop → Type 0
Handled start more log unread holding before now reading stale (Ok found) =
    IsPartway start more log unread holding before now reading (stale || found)
Handled start more log unread holding before now reading stale (Err stop) =
    EndsOrStops (answers start more log) before now (Err stop)
