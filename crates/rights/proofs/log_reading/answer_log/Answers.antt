use Rattle.std.proofs.Common.{◌≡◌, ◌∙◌, ◌+◌, ◌≤◌, ◌++◌, [], arith, refl, sym, ap, inl, inr, take, length, length-append}
use Rattle.std.proofs.lemmas.Grind.{common_steps}
use Rattle.std.specs.Prelude.{◌⊎◌, true, false, Ok, Err}
use Rattle.rights.specs.declared.stopping.Stop.TheVariants.{Memory}
use Rattle.history_model.specs.History.{begun}
use Rattle.outside.proofs.Counts.{Rose-earlier}
use Rattle.rights.specs.HandledLines.{log_limit}
use Rattle.rights.specs.LogPieces.{IsPieceAfter}
use Rattle.outside.specs.Count.{Rose}
use Rattle.rights.specs.Reads.{FailedAt, FailsOnlyBy}
use Rattle.rights.specs.Run.{IsUnread}
use Rattle.rights.specs.Stopping.{end_of, StopsForLog}
use Rattle.rights.proofs.Finishing.{by_err, ends-well}
use Rattle.rights.proofs.LogEnds.{begins, ends-memory, ends-whole, finishes}
use Rattle.rights.proofs.LogLoop.{before-piece, err-is, fed-piece, piece-failed, reads-known, reads-more, reads-nothing, ready-new, regroup, some-log-after, stands-on, stops-at-reach, stops-piece, within-limit}
use Rattle.rights.proofs.LogPieces.{ended_log, size_of, stops_log}
use Rattle.rights.proofs.log_reading.answer_log.Goals as goal

pub pieces-init : goal.pieces-init
pieces-init g c = record {
  room = grind (arith, common_steps, c.in_ok-bytes.ensures, c.piece_len.ensures);
  before = [];
  read = refl;
  within = omega arith;
  has = reads-nothing (g.S.Shelf.known c.args.shelf.now c.args.log.now);
  part = λ start more unread stands within.
      begins start more unread c.args.session.now (g.K.Sink.pieces c.args.out.now) c.new-lines.result c.new-lines.ensures stands (omega (arith, within));
  ready = ready-new c.new-lines.result c.new-lines.ensures;
  unfinished = rw c.new-lines.ensures refl;
  time = let none = c.requires.1.has_all.time_is in rw c.new-lines.ensures (omega (arith, none));
  nothing = λ none. refl;
  reads = record { known = λ n. refl; reach = λ n other. refl; faults = λ n. omega arith };
  reach = λ bytes known. omega arith;
  count = omega arith;
}

pub returns-in_err-count-clause-ends : goal.returns-in_err-count-clause-ends
returns-in_err-count-clause-ends g c = λ start stands.
    let so_far = c.pieces.invariant in
    let log_known = g.S.Shelf.known c.args.shelf.now c.args.log.now in
    let reads = reads-known log_known _ so_far.before c.next_piece.new.buffer (Err c.in_err-count.field-0.0) (so_far.reads.known c.args.log.now) so_far.has (c.in_err-count.ensures.piece so_far.before so_far.read) in
    by_err (λ r. IsUnread (g.K.Sink.pieces c.args.out.now) (g.K.Sink.pieces c.pieces.out) (end_of r)
    ⊎ StopsForLog start log_known (g.K.Sink.pieces c.args.out.now) (g.K.Sink.pieces c.pieces.out) r)
    c.from_residual-in_err-count.result c.in_err-count.field-0.0 c.from_residual-in_err-count.ensures.1
    (stops-piece start log_known so_far.before c.next_piece.new.buffer c.pieces.session (g.K.Sink.pieces c.args.out.now) (g.K.Sink.pieces c.pieces.out) c.pieces.lines c.pieces.stale
    c.in_err-count.field-0.0 (λ more unread within. so_far.part start more unread stands within) so_far.ready so_far.has (omega (arith, so_far.read, so_far.within))
    (λ none. so_far.nothing (sym so_far.read ∙ none)) reads)

pub returns-in_err-count-clause-read_failed : goal.returns-in_err-count-clause-read_failed
returns-in_err-count-clause-read_failed g c = λ start bytes stands known failed.
    let so_far = c.pieces.invariant in
    let why : c.in_err-count.field-0.0 ≡ _ = err-is c.from_residual-in_err-count.result _ _ c.from_residual-in_err-count.ensures.1 failed in
    let reach = rw why at (c.in_err-count.ensures.reach bytes (so_far.reads.known c.args.log.now ∙ known)) in
    stops-at-reach start bytes so_far.before c.pieces.session (g.K.Sink.pieces c.args.out.now) (g.K.Sink.pieces c.pieces.out) c.pieces.lines c.pieces.stale _ _
    (λ more unread within. so_far.part start more unread stands within) so_far.ready (rw known at so_far.has) (omega (arith, so_far.read, so_far.within))
    (λ none. so_far.nothing (sym so_far.read ∙ none)) (reach ∙ so_far.reach bytes known ∙ rw so_far.read refl)

pub returns-in_err-count-clause-causes : goal.returns-in_err-count-clause-causes
returns-in_err-count-clause-causes g c =
    let so_far = c.pieces.invariant in
    let log_known = g.S.Shelf.known c.args.shelf.now c.args.log.now in
    let reads = reads-known log_known _ so_far.before c.next_piece.new.buffer (Err c.in_err-count.field-0.0) (so_far.reads.known c.args.log.now) so_far.has (c.in_err-count.ensures.piece so_far.before so_far.read) in
    by_err (λ r. FailsOnlyBy (FailedAt (g.S.Shelf.faults c.args.shelf.now) (g.S.Shelf.faults c.next_piece.new.shelf) c.args.log.now)
    (Rose (g.K.Sink.faults c.args.out.now) (g.K.Sink.faults c.pieces.out)) (end_of r))
    c.from_residual-in_err-count.result c.in_err-count.field-0.0 c.from_residual-in_err-count.ensures.1
    (piece-failed log_known so_far.before c.next_piece.new.buffer c.in_err-count.field-0.0 (FailedAt (g.S.Shelf.faults c.args.shelf.now) (g.S.Shelf.faults c.next_piece.new.shelf) c.args.log.now)
    (Rose (g.K.Sink.faults c.args.out.now) (g.K.Sink.faults c.pieces.out)) reads
    (λ why. Rose-earlier _ _ _ (so_far.reads.faults c.args.log.now) (c.in_err-count.ensures.cause (ap Err why))))

pub returns-in_err-count-clause-reads : goal.returns-in_err-count-clause-reads
returns-in_err-count-clause-reads g c = reads-more c.pieces.invariant.reads c.in_err-count.ensures.reads

pub returns-in_err-feed-clause-ends : goal.returns-in_err-feed-clause-ends
returns-in_err-feed-clause-ends g c = λ start stands.
    let so_far = c.pieces.invariant in
    let log_known = g.S.Shelf.known c.args.shelf.now c.args.log.now in
    let piece = take c.in-Some.count c.next_piece.new.buffer in
    let after : IsPieceAfter log_known so_far.before piece = (rw c.in-Some.is at
    (reads-known log_known _ so_far.before c.next_piece.new.buffer (Ok c.in_ok-count.field-0) (so_far.reads.known c.args.log.now) so_far.has (c.in_ok-count.ensures.piece so_far.before so_far.read))).1 in
    let some = some-log-after log_known so_far.before piece after in
    by_err (λ r. IsUnread (g.K.Sink.pieces c.args.out.now) (g.K.Sink.pieces c.pieces.out) (end_of r)
    ⊎ StopsForLog start log_known (g.K.Sink.pieces c.args.out.now) (g.K.Sink.pieces c.pieces.out) r)
    c.from_residual-in_err-feed.result Memory c.from_residual-in_err-feed.ensures.1
    (inr (stops_log start log_known (g.K.Sink.pieces c.args.out.now) (g.K.Sink.pieces c.pieces.out) (Err Memory) so_far.before (piece ++ some.unread) some.more
    (before-piece log_known so_far.before piece some.unread some.more some.is)
    (ends-memory start some.more (so_far.before ++ (piece ++ some.unread)) (piece ++ some.unread) c.pieces.session
    (g.K.Sink.pieces c.args.out.now) (g.K.Sink.pieces c.pieces.out) c.pieces.lines c.pieces.stale
    (so_far.part start some.more (piece ++ some.unread) stands (within-limit so_far.before piece some.unread some.within)))))

pub answer_ready-requires-clause-stands : goal.answer_ready-requires-clause-stands
answer_ready-requires-clause-stands g c =
    let so_far = c.pieces.invariant in
    stands-on (begun c.requires.0) so_far.before c.pieces.session (g.K.Sink.pieces c.args.out.now) (g.K.Sink.pieces c.pieces.out) c.pieces.lines c.pieces.stale
    (λ more unread within. so_far.part (begun c.requires.0) more unread c.requires.1 within) (omega (arith, so_far.read, so_far.within))

pub returns-in_err-stale-clause-ends : goal.returns-in_err-stale-clause-ends
returns-in_err-stale-clause-ends g c = λ start stands.
    let so_far = c.pieces.invariant in
    let log_known = g.S.Shelf.known c.args.shelf.now c.args.log.now in
    let piece = take c.in-Some.count c.next_piece.new.buffer in
    let after : IsPieceAfter log_known so_far.before piece = (rw c.in-Some.is at
    (reads-known log_known _ so_far.before c.next_piece.new.buffer (Ok c.in_ok-count.field-0) (so_far.reads.known c.args.log.now) so_far.has (c.in_ok-count.ensures.piece so_far.before so_far.read))).1 in
    let some = some-log-after log_known so_far.before piece after in
    by_err (λ r. IsUnread (g.K.Sink.pieces c.args.out.now) (g.K.Sink.pieces c.answer_ready.new.out) (end_of r)
    ⊎ StopsForLog start log_known (g.K.Sink.pieces c.args.out.now) (g.K.Sink.pieces c.answer_ready.new.out) r)
    c.from_residual-in_err-stale.result c.in_err-stale.field-0.0 c.from_residual-in_err-stale.ensures.1
    (inr (stops_log start log_known (g.K.Sink.pieces c.args.out.now) (g.K.Sink.pieces c.answer_ready.new.out) (Err c.in_err-stale.field-0.0) so_far.before
    (piece ++ some.unread) some.more (before-piece log_known so_far.before piece some.unread some.more some.is)
    (c.in_err-stale.ensures.handled start some.more (so_far.before ++ (piece ++ some.unread)) some.unread (g.K.Sink.pieces c.args.out.now) c.pieces.stale
    (fed-piece start so_far.before piece some.unread some.more c.pieces.session (g.K.Sink.pieces c.args.out.now) (g.K.Sink.pieces c.pieces.out) c.pieces.lines
    c.feed.new.self c.pieces.stale (λ more unread within. so_far.part start more unread stands within) c.in_ok-feed.ensures.ok so_far.unfinished some.within))))

pub pieces-preserved : goal.pieces-preserved
pieces-preserved g c =
    let so_far = c.pieces.invariant in
    let log_known = g.S.Shelf.known c.args.shelf.now c.args.log.now in
    let piece = take c.in-Some.count c.next_piece.new.buffer in
    let reads = rw c.in-Some.is at
    (reads-known log_known _ so_far.before c.next_piece.new.buffer (Ok c.in_ok-count.field-0) (so_far.reads.known c.args.log.now) so_far.has
    (c.in_ok-count.ensures.piece so_far.before so_far.read)) in
    let after : IsPieceAfter log_known so_far.before piece = reads.1 in
    let size : length piece ≡ c.in-Some.count = size_of c.in-Some.count c.next_piece.new.buffer reads.0 in
    let read : length (so_far.before ++ piece) ≡ c.pieces.read + c.in-Some.count = length-append so_far.before piece ∙ omega (arith, so_far.read, size) in
    let within : c.pieces.read + c.in-Some.count ≤ log_limit = omega (arith, after.within, so_far.read, size) in
    let fed : length c.feed.new.self.rest ≡ length (c.pieces.lines.rest ++ piece) = rw c.in_ok-feed.ensures.ok refl in
    let time : c.answer_ready.new.session.happened + length c.answer_ready.new.lines.rest ≤ c.pieces.read + c.in-Some.count =
    omega (arith, c.in_ok-stale.ensures.time, so_far.time, fed, size, length-append c.pieces.lines.rest piece) in
    record {
      room = omega (arith, so_far.room, c.next_piece.auto.buffer);
      before = so_far.before ++ piece;
      read = read;
      within = within;
      has = after.read;
      part = λ start more unread stands within.
          regroup start so_far.before piece unread more c.answer_ready.new.session (g.K.Sink.pieces c.args.out.now) (g.K.Sink.pieces c.answer_ready.new.out)
          c.answer_ready.new.lines _
          (c.in_ok-stale.ensures.handled start more (so_far.before ++ (piece ++ unread)) unread (g.K.Sink.pieces c.args.out.now) c.pieces.stale
          (fed-piece start so_far.before piece unread more c.pieces.session (g.K.Sink.pieces c.args.out.now) (g.K.Sink.pieces c.pieces.out) c.pieces.lines
          c.feed.new.self c.pieces.stale (λ more unread within. so_far.part start more unread stands within) c.in_ok-feed.ensures.ok so_far.unfinished within));
      ready = c.in_ok-stale.ensures.ready;
      unfinished = c.in_ok-stale.ensures.finished ∙ rw c.in_ok-feed.ensures.ok so_far.unfinished;
      time = time;
      nothing = λ none.
          let some : c.pieces.read + c.in-Some.count ≡ 0 = none in
          absurd (omega (arith, some, size, after.some));
      reads = reads-more so_far.reads c.in_ok-count.ensures.reads;
      reach = λ bytes known.
          let reach = rw c.in-Some.is at (c.in_ok-count.ensures.reach bytes (so_far.reads.known c.args.log.now ∙ known)) in
          omega (arith, reach, so_far.reach bytes known);
      count = omega (arith, so_far.count, c.answer_ready.ensures.count);
    }

pub answer_ready-requires-2-clause-stands : goal.answer_ready-requires-2-clause-stands
answer_ready-requires-2-clause-stands g c =
    let so_far = c.pieces.invariant in
    stands-on (begun c.requires.0) so_far.before c.pieces.session (g.K.Sink.pieces c.args.out.now) (g.K.Sink.pieces c.pieces.out) c.pieces.lines c.pieces.stale
    (λ more unread within. so_far.part (begun c.requires.0) more unread c.requires.1 within) (omega (arith, so_far.read, so_far.within))

pub returns-in_err-stale-2-clause-ends : goal.returns-in_err-stale-2-clause-ends
returns-in_err-stale-2-clause-ends g c = λ start stands.
    let so_far = c.pieces.invariant in
    let log_known = g.S.Shelf.known c.args.shelf.now c.args.log.now in
    let within : length so_far.before ≤ log_limit = omega (arith, so_far.read, so_far.within) in
    let may_be = rw c.in_default.is at
    (reads-known log_known _ so_far.before c.next_piece.new.buffer (Ok c.in_ok-count.field-0) (so_far.reads.known c.args.log.now) so_far.has (c.in_ok-count.ensures.piece so_far.before so_far.read)) in
    by_err (λ r. IsUnread (g.K.Sink.pieces c.args.out.now) (g.K.Sink.pieces c.answer_ready-2.new.out) (end_of r)
    ⊎ StopsForLog start log_known (g.K.Sink.pieces c.args.out.now) (g.K.Sink.pieces c.answer_ready-2.new.out) r)
    c.from_residual-in_err-stale-2.result c.in_err-stale-2.field-0.0 c.from_residual-in_err-stale-2.ensures.1
    (inr (stops_log start log_known (g.K.Sink.pieces c.args.out.now) (g.K.Sink.pieces c.answer_ready-2.new.out) (Err c.in_err-stale-2.field-0.0) so_far.before [] false
    (ended_log log_known so_far.before within may_be)
    (c.in_err-stale-2.ensures.handled start false (so_far.before ++ []) [] (g.K.Sink.pieces c.args.out.now) c.pieces.stale
    (finishes start (so_far.before ++ []) c.pieces.session (g.K.Sink.pieces c.args.out.now) (g.K.Sink.pieces c.pieces.out) c.pieces.lines c.finish.new.self c.pieces.stale
    c.finish.ensures (so_far.part start false [] stands (omega (arith, within)))))))

pub returns-clause-ends : goal.returns-clause-ends
returns-clause-ends g c = λ start stands.
    let so_far = c.pieces.invariant in
    let log_known = g.S.Shelf.known c.args.shelf.now c.args.log.now in
    let within : length so_far.before ≤ log_limit = omega (arith, so_far.read, so_far.within) in
    let may_be = rw c.in_default.is at
    (reads-known log_known _ so_far.before c.next_piece.new.buffer (Ok c.in_ok-count.field-0) (so_far.reads.known c.args.log.now) so_far.has (c.in_ok-count.ensures.piece so_far.before so_far.read)) in
    let finished : c.finish.new.self.finished ≡ true = rw c.finish.ensures refl in
    inr (stops_log start log_known (g.K.Sink.pieces c.args.out.now) (g.K.Sink.pieces c.answer_ready-2.new.out) (Ok c.end.result) so_far.before [] false
    (ended_log log_known so_far.before within may_be)
    (rw c.end.ensures (ends-whole start (so_far.before ++ []) c.answer_ready-2.new.session (g.K.Sink.pieces c.args.out.now) (g.K.Sink.pieces c.answer_ready-2.new.out)
    c.answer_ready-2.new.lines _
    (c.in_ok-stale-2.ensures.handled start false (so_far.before ++ []) [] (g.K.Sink.pieces c.args.out.now) c.pieces.stale
    (finishes start (so_far.before ++ []) c.pieces.session (g.K.Sink.pieces c.args.out.now) (g.K.Sink.pieces c.pieces.out) c.pieces.lines c.finish.new.self c.pieces.stale
    c.finish.ensures (so_far.part start false [] stands (omega (arith, within)))))
    (c.in_ok-stale-2.ensures.finished ∙ finished) c.in_ok-stale-2.ensures.ready)))

pub returns-clause-ended : goal.returns-clause-ended
returns-clause-ended g c = λ failed. ends-well _ _ (inl refl) (sym c.end.ensures ∙ failed)
