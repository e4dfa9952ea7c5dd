use Rattle.std.proofs.Common.{◌≡◌, ℕ, refl, ap, ◌∙◌}
use Rattle.std.specs.Prelude.{IfErr}
use Rattle.edit_log.specs.Log.{lines_of}
use Rattle.rights_report.specs.declared.summaries.Summary.{Summary}
use Rattle.rights.specs.declared.stopping.Stop.TheVariants.{Memory}
use Rattle.rights.proofs.Finishing.{by_err}
use Rattle.rights.proofs.GeneratedLogs.{counted-all, counted-more, counted-none, read-fails, step-fails, zeros-are}
use Rattle.rights.proofs.generating.summarize_log.Goals as goal

pub events-init : goal.events-init
events-init g c =
    counted-none c.args.seed c.args.count c.args.session.now c.finish.new.self c.default-summary.result c.requires.stands
    (rw (c.finish.ensures, c.in_ok-feed.ensures.ok, c.new-lines.ensures) (ap lines_of c.requires.log))
    (rw (c.finish.ensures, c.in_ok-feed.ensures.ok, c.new-lines.ensures) refl)
    (rw c.finish.ensures refl) c.requires.count (zeros-are c.default-summary.result c.default-summary.ensures)

pub returns-in_err-event-clause-err : goal.returns-in_err-event-clause-err
returns-in_err-event-clause-err g c =
    by_err (λ r. IfErr r (λ stop. stop ≡ Memory)) c.from_residual-in_err-event.result c.in_err-event.field-0.0 c.from_residual-in_err-event.ensures.1
    (read-fails c.args.seed c.args.count c.events.session c.events.lines c.events.summary c.events.invariant c.next_event.new.lines c.in_err-event.field-0.0 c.in_err-event.ensures)

pub returns-in_err-answer-clause-err : goal.returns-in_err-answer-clause-err
returns-in_err-answer-clause-err g c =
    by_err (λ r. IfErr r (λ stop. stop ≡ Memory)) c.from_residual-in_err-answer.result c.in_err-answer.field-0.0 c.from_residual-in_err-answer.ensures.1
    (step-fails c.args.seed c.args.count c.events.session c.events.lines c.events.summary c.events.invariant c.step.new.session c.next_event.new.lines c.in-Some.event
    c.line-number.result c.in_err-answer.field-0.0 (rw c.in-Some.is at c.in_ok-event.ensures) c.in_err-answer.ensures)

pub events-preserved-in_ok-add_answer : goal.events-preserved-in_ok-add_answer
events-preserved-in_ok-add_answer g c =
    rw (c.in_ok-add_answer.ensures.ok, c.in_ok-add_event.ensures.ok)
    (counted-more c.args.seed c.args.count c.events.session c.events.lines c.events.summary c.events.invariant c.step.new.session c.next_event.new.lines c.in-Some.event
    c.in_ok-answer.answer (rw c.in-Some.is at c.in_ok-event.ensures) c.in_ok-answer.ensures)

pub events-preserved : goal.events-preserved
events-preserved g c =
    rw (c.in_ok-add_answer.ensures.ok, c.in_ok-add_event.ensures.ok)
    (counted-more c.args.seed c.args.count c.events.session c.events.lines c.events.summary c.events.invariant c.step.new.session c.next_event.new.lines c.in-Some.event
    c.in_ok-answer.answer (rw c.in-Some.is at c.in_ok-event.ensures) c.in_ok-answer.ensures)

pub returns-clause-ok : goal.returns-clause-ok
returns-clause-ok g c =
    counted-all c.args.seed c.args.count c.events.session c.events.lines c.events.summary c.events.invariant c.next_event.new.lines _
    (rw c.in_default.is at c.in_ok-event.ensures)
    (ap (λ (n : ℕ). let at : Summary = record c.events.summary { events = n } in at) (c.from.ensures ∙ c.now.ensures))
