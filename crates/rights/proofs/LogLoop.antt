-- The pieces of a log one after another: what holds before the first, and how a run ends at each.
use Rattle.std.proofs.Common.{◌≡◌, ◌≢◌, ℕ, ◌+◌, ◌≤◌, List, [], ◌∷◌, ◌++◌, refl, arith, sym, ◌∙◌, subst, inl, inr, length, length-append, append-nil, append_assoc, max}
use Rattle.std.specs.Prelude.{◌⊎◌, Bool, true, false, Option, None, Result, Err, IsErrAnd}
use Rattle.audit_core.specs.Standing.{Holding, StandsFor}
use Rattle.edit_log.specs.Reading.{Reading}
use Rattle.history_model.specs.History.{History}
use Rattle.outside.specs.Shelf.{Known, unspecified, missing, has_bytes}
use Rattle.outside.specs.Whole.{IsBytePrefix}
use Rattle.rights.specs.HandledLines.{log_limit}
use Rattle.rights.specs.LogPieces.{AnswersEnded, HasRead, IsPieceAfter, ReadsPiece, StopsAtReach}
use Rattle.rights.specs.Partway.{IsPartway, IsReady}
use Rattle.rights.specs.Reads.{FailsOnlyBy, ReadsOnly}
use Rattle.rights.specs.Run.{IsUnread}
use Rattle.rights.specs.Stopping.{status_of, StopsForLog}
use Rattle.rights.specs.declared.stopping.Stop.{Stop}
use Rattle.rights.specs.declared.stopping.Stop.TheVariants as stop
use Rattle.rights.proofs.Finishing.{put-failed, read-failed}
use Rattle.rights.proofs.LogEnds.{answers-ended, ends-read, feeds, stops-long}
use Rattle.rights.proofs.LogPieces.{IsLogOf, long_log, some_log, SomeLog, stops_log}
use Rattle.rights.proofs.PutPieces.{Pieces}

-- the log is partway, whatever follows what was read
abbrev pub IsRead : History → List ℕ → Holding → Pieces → Pieces → Reading → Bool → Type 0
IsRead start read holding before now reading stale =
    (more : Bool) (unread : List ℕ) → length read + length unread ≤ log_limit → IsPartway start more (read ++ unread) unread holding before now reading stale

pub reads-nothing : (known : Known) → HasRead known []
reads-nothing unspecified = tt
reads-nothing missing = refl
reads-nothing (has_bytes content) = record { within = omega arith; same = refl }

pub ready-new : (reading : Reading) → reading ≡ record { rest = []; taken = 0; finished = false; refused = None } → IsReady reading
ready-new reading is = record { unrefused = rw is refl; none = rw is refl; no_end = rw is refl; short = rw is (omega arith) }

-- what reads change, one after another
pub reads-more : {IsMeant : List ℕ → Type 0} {known_old known_mid known_new : List ℕ → Known} {reach_old reach_mid reach_new faults_old faults_mid faults_new : List ℕ → ℕ}
    → ReadsOnly IsMeant known_old known_mid reach_old reach_mid faults_old faults_mid → ReadsOnly IsMeant known_mid known_new reach_mid reach_new faults_mid faults_new
    → ReadsOnly IsMeant known_old known_new reach_old reach_new faults_old faults_new
reads-more first second = record {
  known = λ n. second.known n ∙ first.known n;
  reach = λ n other. second.reach n other ∙ first.reach n other;
  faults = λ n. omega (arith, first.faults n, second.faults n);
}

-- some log with the bytes that were read and a piece has the piece first among what follows
pub before-piece : (known : Known) (read piece unread : List ℕ) (more : Bool) → IsLogOf known (read ++ piece) unread more → IsLogOf known read (piece ++ unread) more
before-piece known read piece unread more is = record {
  log = is.log;
  may_be = is.may_be;
  bytes = is.bytes ∙ append_assoc read piece unread;
  more_is = is.more_is;
}

pub some-log-after : (known : Known) (read piece : List ℕ) → IsPieceAfter known read piece → SomeLog known (read ++ piece)
some-log-after known read piece after =
    some_log known (read ++ piece) (omega (arith, length-append read piece, after.some)) (omega (arith, length-append read piece, after.within)) after.read

-- how a run ends where no piece is read
pub stops-piece : (start : History) (known : Known) (read buffer : List ℕ) (holding : Holding) (before now : Pieces) (reading : Reading) (stale : Bool) (why : Stop)
    → IsRead start read holding before now reading stale → IsReady reading → HasRead known read → length read ≤ log_limit → (length read ≡ 0 → now ≡ before)
    → ReadsPiece known read buffer (Err why) → IsUnread before now (status_of why) ⊎ StopsForLog start known before now (Err why)
stops-piece start known read buffer holding before now reading stale stop.LongLog so_far ready has within nothing reads =
    inr (stops_log start known before now (Err stop.LongLog) read [] true (long_log known read reads.0 has reads.1)
    (stops-long start (read ++ []) holding before now reading stale (so_far true [] (omega (arith, within))) ready))
stops-piece start known [] buffer holding before now reading stale stop.Read so_far ready has within nothing reads = inl (record { nothing = nothing refl; why = inl refl })
stops-piece start known (b ∷ read) buffer holding before now reading stale stop.Read so_far ready has within nothing reads =
    let some = some_log known (b ∷ read) (omega arith) within has in
    inr (stops_log start known before now (Err stop.Read) (b ∷ read) some.unread some.more some.is
    (ends-read start some.more (b ∷ read ++ some.unread) some.unread holding before now reading stale (so_far some.more some.unread some.within)))
stops-piece start known read buffer holding before now reading stale stop.Usage so_far ready has within nothing reads = absurd reads
stops-piece start known read buffer holding before now reading stale stop.LongCore so_far ready has within nothing reads = absurd reads
stops-piece start known read buffer holding before now reading stale (stop.Core fault) so_far ready has within nothing reads = absurd reads
stops-piece start known read buffer holding before now reading stale (stop.Line number why) so_far ready has within nothing reads = absurd reads
stops-piece start known read buffer holding before now reading stale stop.Put so_far ready has within nothing reads = absurd reads
stops-piece start known read buffer holding before now reading stale stop.Memory so_far ready has within nothing reads = absurd reads

pub stops-at-reach : (start : History) (log read : List ℕ) (holding : Holding) (before now : Pieces) (reading : Reading) (stale : Bool) (reach_old reach_new : ℕ)
    → IsRead start read holding before now reading stale → IsReady reading → IsBytePrefix log read → length read ≤ log_limit → (length read ≡ 0 → now ≡ before)
    → reach_new ≡ max reach_old (length read) → StopsAtReach start log reach_old reach_new before now
stops-at-reach start log read holding before now reading stale reach_old reach_new so_far ready prefix within nothing reach_is =
    let ended : AnswersEnded start read before now =
    subst (λ (bytes : List ℕ). AnswersEnded start bytes before now) (append-nil read)
    (answers-ended start (read ++ []) holding before now reading stale (so_far true [] (omega (arith, within))) ready) in
    record {
      nothing = λ none. nothing (omega (arith, none, reach_is));
      ended = λ none.
          let at : reach_new ≡ length read = omega (arith, none, reach_is) in
          rw at (subst (λ (bytes : List ℕ). AnswersEnded start bytes before now) prefix.same ended);
    }

-- what a run failed by that stops where no piece is read
pub piece-failed : (known : Known) (read buffer : List ℕ) (why : Stop) (Reading Writing : Type 0) → ReadsPiece known read buffer (Err why) → (why ≡ stop.Read → Reading)
    → FailsOnlyBy Reading Writing (status_of why)
piece-failed known read buffer why Reading Writing reads cause = record {
  read_failed = λ failed. cause (read-failed why failed);
  write_failed = λ failed. absurd (rw (put-failed why failed) at reads);
}

-- no read fails where the lines of a piece are answered
pub answering-failed : (why : Stop) (Reading Writing : Type 0) → why ≢ stop.Read → (why ≡ stop.Put → Writing) → FailsOnlyBy Reading Writing (status_of why)
answering-failed why Reading Writing other cause = record {
  read_failed = λ failed. absurd (other (read-failed why failed));
  write_failed = λ failed. cause (put-failed why failed);
}

-- the error that a result has
pub err-is : {T : Type 0} (result : Result T Stop) (why other : Stop) → IsErrAnd result (λ e. e ≡ why) → result ≡ Err other → why ≡ other
err-is result why other is same = let here : other ≡ why = rw same at is in sym here

-- what a read says of the name as it is known before the run
pub reads-known : (old now : Known) (read buffer : List ℕ) (result : Result (Option ℕ) Stop) → now ≡ old → HasRead old read → (HasRead now read → ReadsPiece now read buffer result)
    → ReadsPiece old read buffer result
reads-known old now read buffer result same has reads =
    subst (λ (known : Known). ReadsPiece known read buffer result) same (reads (subst (λ (known : Known). HasRead known read) (sym same) has))

-- the session stands for some moment
pub stands-on : (start : History) (read : List ℕ) (holding : Holding) (before now : Pieces) (reading : Reading) (stale : Bool) → IsRead start read holding before now reading stale
    → length read ≤ log_limit → (moment : History) × StandsFor holding moment
stands-on start read holding before now reading stale so_far within =
    let partway = (so_far false [] (omega (arith, within))).partway in (partway.part.moment, partway.stands)

-- a piece is fed
pub within-limit : (read piece unread : List ℕ) → length (read ++ piece) + length unread ≤ log_limit → length read + length (piece ++ unread) ≤ log_limit
within-limit read piece unread within = omega (arith, within, length-append read piece, length-append piece unread)

pub fed-piece : (start : History) (read piece unread : List ℕ) (more : Bool) (holding : Holding) (before now : Pieces) (old new : Reading) (stale : Bool)
    → IsRead start read holding before now old stale → new ≡ record { rest = old.rest ++ piece; taken = old.taken; finished = old.finished; refused = old.refused }
    → old.finished ≡ false → length (read ++ piece) + length unread ≤ log_limit → IsPartway start more (read ++ (piece ++ unread)) unread holding before now new stale
fed-piece start read piece unread more holding before now old new stale so_far is unfinished within =
    feeds start more (read ++ (piece ++ unread)) piece unread holding before now old new stale is unfinished (so_far more (piece ++ unread) (within-limit read piece unread within))

pub regroup : (start : History) (read piece unread : List ℕ) (more : Bool) (holding : Holding) (before now : Pieces) (reading : Reading) (stale : Bool)
    → IsPartway start more (read ++ (piece ++ unread)) unread holding before now reading stale → IsPartway start more ((read ++ piece) ++ unread) unread holding before now reading stale
regroup start read piece unread more holding before now reading stale so_far =
    subst (λ (log : List ℕ). IsPartway start more log unread holding before now reading stale) (sym (append_assoc read piece unread)) so_far
