use Rattle.std.proofs.Common.{sym}
use Rattle.std.proofs.lemmas.Result.{on_ok_weaker}
use Rattle.audit_core.proofs.AuditableHosts.{auditable_next}
use Rattle.audit_core.proofs.EventLaws.{on_both, said-of, invpcid-accepted}
use Rattle.audit_core.proofs.NotingLaws.{before_the_next}
use Rattle.audit_core.proofs.session.Session.invpcid.Goals as goal

pub invariant_of-self : goal.invariant_of-self
invariant_of-self g c = (
  before_the_next c.invpcid-noted.result c.self.inside.hosts c.invpcid-noted.new.self c.self.inside.happened c.go_on.new.happened
      c.self.invariant.0 c.invpcid-noted.ensures.before c.invpcid-noted.ensures.unchanged c.go_on.ensures.counted
      c.go_on.ensures.not_counted,
  auditable_next c.invpcid-noted.result c.self.inside.hosts c.invpcid-noted.new.self c.self.inside.happened c.go_on.new.happened _ _ _
      c.self.invariant.0 c.self.invariant.1 c.invpcid-noted.ensures.noted c.invpcid-noted.ensures.unchanged c.go_on.ensures.counted
      c.go_on.ensures.not_counted,
  λ is. c.self.invariant.2 (c.go_on.ensures.unpoisoned is).0,
)

pub returns-clause-accepted : goal.returns-clause-accepted
returns-clause-accepted g c =
    rw (sym c.self.view_is)
    (said-of c.invpcid-noted.result c.go_on.result _ c.invpcid-noted.new.self _ _ _ c.go_on.ensures.answer c.go_on.ensures.fault
    c.go_on.ensures.counted c.go_on.ensures.stays
    (on_ok_weaker c.invpcid-noted.result (λ both. invpcid-accepted _ c.args.cpu c.args.kind c.args.pcid c.args.address _ both.0 both.1)
    (on_both _ _ c.invpcid-noted.result c.invpcid-noted.ensures.accepted c.invpcid-noted.ensures.noted)))
