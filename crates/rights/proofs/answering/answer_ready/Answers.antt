use Rattle.std.proofs.Common.{arith, refl, subst, ◌∙◌}
use Rattle.rights.proofs.Booleans.{no_more, or_more}
use Rattle.rights.proofs.Finishing.{by_err}
use Rattle.rights.proofs.LogReading.{handled-event, handled-rest, stops-answer, stops-line, stops-step, time-kept}
use Rattle.rights.specs.Partway.{Handled, IsPartway}
use Rattle.rights.proofs.answering.answer_ready.Goals as goal

pub events-init : goal.events-init
events-init g c = record {
  part = λ start more log unread before stale so_far.
      subst (λ b. IsPartway start more log unread c.args.session.now before (g.K.Sink.pieces c.args.out.now) c.args.lines.now b) (no_more stale) so_far;
  unrefused = c.requires.unrefused;
  finished = refl;
  stands = c.requires.stands;
  time = omega arith;
  count = omega arith;
}

pub returns-in_err-event-clause-handled : goal.returns-in_err-event-clause-handled
returns-in_err-event-clause-handled g c = λ start more log unread before stale so_far.
    by_err (λ r. Handled start more log unread c.events.session before (g.K.Sink.pieces c.events.out) c.next_event.new.lines stale r) c.from_residual.result
    c.in_err-event.field-0.0 c.from_residual.ensures.1
    (stops-line start more log unread c.events.session before (g.K.Sink.pieces c.events.out) c.events.lines c.next_event.new.lines _ c.in_err-event.field-0.0
    (c.events.invariant.part start more log unread before stale so_far) c.in_err-event.ensures)

pub returns-in_err-answer-clause-handled : goal.returns-in_err-answer-clause-handled
returns-in_err-answer-clause-handled g c = λ start more log unread before stale so_far.
    by_err (λ r. Handled start more log unread c.step.new.session before (g.K.Sink.pieces c.events.out) c.next_event.new.lines stale r)
    c.from_residual-in_err-answer.result c.in_err-answer.field-0.0 c.from_residual-in_err-answer.ensures.1
    (stops-step start more log unread c.events.session c.step.new.session before (g.K.Sink.pieces c.events.out) c.events.lines c.next_event.new.lines _ c.in-Some.event
    c.line-number.result c.in_err-answer.field-0.0 (c.events.invariant.part start more log unread before stale so_far) (rw c.in-Some.is at c.in_ok-event.ensures)
    c.line-number.ensures c.in_err-answer.ensures)

pub returns-in_err-put_answer-clause-handled : goal.returns-in_err-put_answer-clause-handled
returns-in_err-put_answer-clause-handled g c = λ start more log unread before stale so_far.
    by_err (λ r. Handled start more log unread c.step.new.session before (g.K.Sink.pieces c.put_answer.new.out) c.next_event.new.lines stale r)
    c.from_residual-in_err-put_answer.result c.in_err-put_answer.field-0.0 c.from_residual-in_err-put_answer.ensures.1
    (stops-answer start more log unread c.events.session c.step.new.session before (g.K.Sink.pieces c.events.out) _ c.events.lines c.next_event.new.lines _ c.in-Some.event
    c.in_ok-answer.answer c.in_err-put_answer.field-0.0 (c.events.invariant.part start more log unread before stale so_far)
    (rw c.in-Some.is at c.in_ok-event.ensures) c.in_ok-answer.ensures c.in_err-put_answer.ensures.puts)

pub events-preserved-in_ok-put_answer : goal.events-preserved-in_ok-put_answer
events-preserved-in_ok-put_answer g c =
    let gives = rw c.in-Some.is at c.in_ok-event.ensures in
    let stands = c.events.invariant.stands in
    record {
      part = λ start more log unread before stale so_far.
          subst (λ b. IsPartway start more log unread c.step.new.session before (g.K.Sink.pieces c.put_answer.new.out) c.next_event.new.lines b)
          (or_more stale c.events.stale c.has_findings-stale.result)
          (handled-event start more log unread c.events.session c.step.new.session before (g.K.Sink.pieces c.events.out) (g.K.Sink.pieces c.put_answer.new.out)
          c.events.lines c.next_event.new.lines _ c.has_findings-stale.result c.in-Some.event c.in_ok-answer.answer
          (c.events.invariant.part start more log unread before stale so_far) gives c.in_ok-answer.ensures c.in_ok-put_answer.ensures.puts c.has_findings-stale.ensures);
      unrefused = gives.takes.going;
      finished = gives.takes.finished ∙ c.events.invariant.finished;
      stands = (_, c.in_ok-answer.ensures.stands stands.0 stands.1);
      time = time-kept stands.0 c.events.session c.step.new.session c.events.lines c.next_event.new.lines c.in-Some.event c.in_ok-answer.answer _ stands.1 gives
          c.in_ok-answer.ensures c.events.invariant.time;
      count = omega (arith, c.events.invariant.count, c.put_answer.ensures.count);
    }

pub events-preserved : goal.events-preserved
events-preserved g c =
    let gives = rw c.in-Some.is at c.in_ok-event.ensures in
    let stands = c.events.invariant.stands in
    record {
      part = λ start more log unread before stale so_far.
          subst (λ b. IsPartway start more log unread c.step.new.session before (g.K.Sink.pieces c.put_answer.new.out) c.next_event.new.lines b)
          (or_more stale c.events.stale c.has_findings-stale.result)
          (handled-event start more log unread c.events.session c.step.new.session before (g.K.Sink.pieces c.events.out) (g.K.Sink.pieces c.put_answer.new.out)
          c.events.lines c.next_event.new.lines _ c.has_findings-stale.result c.in-Some.event c.in_ok-answer.answer
          (c.events.invariant.part start more log unread before stale so_far) gives c.in_ok-answer.ensures c.in_ok-put_answer.ensures.puts c.has_findings-stale.ensures);
      unrefused = gives.takes.going;
      finished = gives.takes.finished ∙ c.events.invariant.finished;
      stands = (_, c.in_ok-answer.ensures.stands stands.0 stands.1);
      time = time-kept stands.0 c.events.session c.step.new.session c.events.lines c.next_event.new.lines c.in-Some.event c.in_ok-answer.answer _ stands.1 gives
          c.in_ok-answer.ensures c.events.invariant.time;
      count = omega (arith, c.events.invariant.count, c.put_answer.ensures.count);
    }

pub returns-clause-handled : goal.returns-clause-handled
returns-clause-handled g c = λ start more log unread before stale so_far.
    handled-rest start more log unread c.events.session before (g.K.Sink.pieces c.events.out) c.events.lines c.next_event.new.lines _
    (c.events.invariant.part start more log unread before stale so_far) (rw c.in_default.is at c.in_ok-event.ensures)
