use Rattle.std.proofs.Common.{◌≡◌, ◌+◌, ◌≤◌, ℕ, List, length}
use Rattle.std.specs.Prelude.{Bool, ◌||◌, Option, None}
use Rattle.audit_core.specs.Standing.{StandsFor}
use Rattle.history_model.specs.History.{History}
use Rattle.rights.specs.Partway.{IsPartway}
use Rattle.rights.proofs.answering.answer_ready.Given as goal

abbrev pub invariant-events : goal.invariant-events
invariant-events g l = record {
  part : (start : History) (more : Bool) (log unread : List ℕ) (before : Option (List (List ℕ))) (stale : Bool)
      → IsPartway start more log unread l.fn.session before (g.K.Sink.pieces l.fn.out) l.fn.lines stale
      → IsPartway start more log unread l.session before (g.K.Sink.pieces l.out) l.lines (stale || l.stale);
  unrefused : l.lines.refused ≡ None;
  finished : l.lines.finished ≡ l.fn.lines.finished;
  stands : (moment : History) × StandsFor l.session moment;
  time : l.session.happened + length l.lines.rest ≤ l.fn.session.happened + length l.fn.lines.rest;
  count : g.K.Sink.faults l.fn.out ≤ g.K.Sink.faults l.out;
}

abbrev pub decreases-events : goal.decreases-events
decreases-events g l = length l.lines.rest
