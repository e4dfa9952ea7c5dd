-- How a log is read piece by piece, and what was written where a read of it failed.
use Rattle.std.specs.Prelude.{◌≡◌, ◌≢◌, ℕ, ◌+◌, ◌<◌, ◌≤◌, max, List, [], ◌++◌, length, take, Option, Some, None, Result, Ok, Err, ⊤}
use Rattle.audit_core.specs.Standing.{core_start}
use Rattle.edit_log.specs.Log.{rest_of, whole_lines}
use Rattle.edit_log.specs.LogLine.{line_limit}
use Rattle.elf_core.specs.declared.core_file.Core.{Core}
use Rattle.history_model.specs.History.{History, begun}
use Rattle.history_model.specs.declared.answers.Answer.{Answer}
use Rattle.outside.specs.Shelf.{Known, unspecified, missing, has_bytes}
use Rattle.outside.specs.Whole.{IsBytePrefix}
use Rattle.rights.specs.Ends.{Adds}
use Rattle.rights.specs.HandledLines.{Handles, log_limit}
use Rattle.rights.specs.Outcome.{output_of}
use Rattle.rights.specs.Run.{core_or_refusal, MayBe}
use Rattle.rights.specs.declared.stopping.Stop.{Stop}
use Rattle.rights.specs.declared.stopping.Stop.TheVariants.{LongLog, Read}

-- these bytes were read of a name, from its first on; none of a name that is known to be missing
abbrev pub HasRead : Known → List ℕ → Type 0
HasRead unspecified bytes = ⊤
HasRead missing bytes = bytes ≡ []
HasRead (has_bytes content) bytes = IsBytePrefix content bytes

-- a name may have more bytes than these
abbrev pub MayHaveMore : Known → List ℕ → Type 0
MayHaveMore unspecified bytes = ⊤
MayHaveMore missing bytes = ⊥
MayHaveMore (has_bytes content) bytes = length bytes < length content

-- a piece after what was read of a log, within its limit
pub record IsPieceAfter (known : Known) (before piece : List ℕ) : Type 0 where
  pub some : 0 < length piece
  pub within : length before + length piece ≤ log_limit
  pub read : HasRead known (before ++ piece)

-- the length of the next piece after what was read of a log, which a buffer begins with; none at the log's end; or the log
-- is over its limit, or a read failed
abbrev pub ReadsPiece : Known → List ℕ → List ℕ → Result (Option ℕ) Stop → Type 0
ReadsPiece known before buffer (Ok (Some count)) = (count ≤ length buffer) × IsPieceAfter known before (take count buffer)
ReadsPiece known before buffer (Ok None) = MayBe known before
ReadsPiece known before buffer (Err LongLog) = (length before ≡ log_limit) × MayHaveMore known before
ReadsPiece known before buffer (Err Read) = ⊤
ReadsPiece known before buffer (Err stop) = ⊥

-- the offset up to which a log was read, before and after a piece from an offset on
abbrev pub ReachesBy : ℕ → ℕ → ℕ → Result (Option ℕ) Stop → Type 0
ReachesBy old new at (Ok (Some count)) = new ≡ max old (at + count)
ReachesBy old new at (Ok None) = new ≡ old
ReachesBy old new at (Err Read) = new ≡ old
ReachesBy old new at (Err stop) = ⊤

-- the lines that end in these bytes of a log were answered from a moment on, and what follows them fits a line
pub record AnswersEnded (start : History) (bytes : List ℕ) (before now : Option (List (List ℕ))) : Type 0 where
  pub answers : List Answer
  pub later : History
  pub handles : Handles start (whole_lines bytes) answers later
  pub adds : Adds before now (output_of answers)
  pub short : length (rest_of bytes) ≤ line_limit

-- What was written where a read of a log failed, by the offsets up to which it was read before and after: nothing where
-- it was never read, and the answers to the lines that ended where it was first read now.
pub record StopsAtReach (start : History) (log : List ℕ) (reach_old reach_new : ℕ) (before now : Option (List (List ℕ))) : Type 0 where
  pub nothing : reach_new ≡ 0 → now ≡ before
  pub ended : reach_old ≡ 0 → AnswersEnded start (take reach_new log) before now

-- the lines that end in these bytes of a log were answered, from the moment that an accepted core states
pub record AnswersForCore (core_known : Known) (bytes : List ℕ) (before now : Option (List (List ℕ))) : Type 0 where
  pub core : List ℕ
  pub core_is : MayBe core_known core
  pub read : Core
  pub accepted : core_or_refusal core ≡ Ok read
  pub ended : AnswersEnded (begun (core_start read)) bytes before now

-- What was written where a read of a core or of its log failed, by the offsets up to which the log was read.
pub record FailsAtReach (core_name log_name : List ℕ) (core_known : Known) (log : List ℕ) (reach_old reach_new : ℕ) (before now : Option (List (List ℕ))) : Type 0 where
  pub nothing : reach_new ≡ 0 → now ≡ before
  pub ended : log_name ≢ core_name → reach_old ≡ 0 → reach_new ≢ 0 → AnswersForCore core_known (take reach_new log) before now
