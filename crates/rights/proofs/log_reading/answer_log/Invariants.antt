use Rattle.std.proofs.Common.{◌≡◌, ◌+◌, ◌-◌, ◌<◌, ◌≤◌, ℕ, List, ◌++◌, length, max}
use Rattle.std.specs.Prelude.{Bool, false}
use Rattle.audit_core.specs.Standing.{StandsFor}
use Rattle.history_model.specs.History.{History}
use Rattle.outside.specs.Shelf.{has_bytes}
use Rattle.rights.specs.HandledLines.{log_limit}
use Rattle.rights.specs.LogPieces.{HasRead}
use Rattle.rights.specs.Partway.{IsPartway, IsReady}
use Rattle.rights.specs.Reads.{ReadsOnly}
use Rattle.rights.proofs.log_reading.answer_log.Given as goal

abbrev pub invariant-pieces : goal.invariant-pieces
invariant-pieces g l = record {
  room : 0 < length l.buffer;
  before : List ℕ;
  read : length before ≡ l.read;
  within : l.read ≤ log_limit;
  has : HasRead (g.S.Shelf.known l.fn.shelf l.log) before;
  part : (start : History) (more : Bool) (unread : List ℕ) → StandsFor l.fn.session start → length before + length unread ≤ log_limit
      → IsPartway start more (before ++ unread) unread l.session (g.K.Sink.pieces l.fn.out) (g.K.Sink.pieces l.out) l.lines l.stale;
  ready : IsReady l.lines;
  unfinished : l.lines.finished ≡ false;
  time : l.session.happened + length l.lines.rest ≤ l.read;
  nothing : l.read ≡ 0 → g.K.Sink.pieces l.out ≡ g.K.Sink.pieces l.fn.out;
  reads : ReadsOnly (λ n. n ≡ l.log) (g.S.Shelf.known l.fn.shelf) (g.S.Shelf.known l.shelf) (g.S.Shelf.reach l.fn.shelf) (g.S.Shelf.reach l.shelf)
      (g.S.Shelf.faults l.fn.shelf) (g.S.Shelf.faults l.shelf);
  reach : (bytes : List ℕ) → g.S.Shelf.known l.fn.shelf l.log ≡ has_bytes bytes → g.S.Shelf.reach l.shelf l.log ≡ max (g.S.Shelf.reach l.fn.shelf l.log) l.read;
  count : g.K.Sink.faults l.fn.out ≤ g.K.Sink.faults l.out;
}

abbrev pub decreases-pieces : goal.decreases-pieces
decreases-pieces g l = log_limit - l.read
