use Rattle.std.proofs.Common.{sym}
use Rattle.std.proofs.lemmas.Result.{on_ok_weaker}
use Rattle.audit_core.proofs.AuditableHosts.{auditable_next}
use Rattle.audit_core.proofs.EventLaws.{on_both, said-of, invlpg-accepted}
use Rattle.audit_core.proofs.NotingLaws.{before_the_next}
use Rattle.audit_core.proofs.session.Session.invlpg.Goals as goal

pub invariant_of-self : goal.invariant_of-self
invariant_of-self g c = (
  before_the_next c.invlpg-noted.result c.self.inside.hosts c.invlpg-noted.new.self c.self.inside.happened c.go_on.new.happened
      c.self.invariant.0 c.invlpg-noted.ensures.before c.invlpg-noted.ensures.unchanged c.go_on.ensures.counted
      c.go_on.ensures.not_counted,
  auditable_next c.invlpg-noted.result c.self.inside.hosts c.invlpg-noted.new.self c.self.inside.happened c.go_on.new.happened _ _ _
      c.self.invariant.0 c.self.invariant.1 c.invlpg-noted.ensures.noted c.invlpg-noted.ensures.unchanged c.go_on.ensures.counted
      c.go_on.ensures.not_counted,
  λ is. c.self.invariant.2 (c.go_on.ensures.unpoisoned is).0,
)

pub returns-clause-accepted : goal.returns-clause-accepted
returns-clause-accepted g c =
    rw (sym c.self.view_is)
    (said-of c.invlpg-noted.result c.go_on.result _ c.invlpg-noted.new.self _ _ _ c.go_on.ensures.answer c.go_on.ensures.fault
    c.go_on.ensures.counted c.go_on.ensures.stays
    (on_ok_weaker c.invlpg-noted.result (λ both. invlpg-accepted _ c.args.cpu c.args.address _ both.0 both.1)
    (on_both _ _ c.invlpg-noted.result c.invlpg-noted.ensures.accepted c.invlpg-noted.ensures.noted)))
