use Rattle.std.proofs.Common.{sym}
use Rattle.audit_core.proofs.AuditableHosts.{auditable_with_one}
use Rattle.audit_core.proofs.EventLaws.{cpu-accepted}
use Rattle.audit_core.proofs.StartLaws.{before_with_one}
use Rattle.audit_core.proofs.session.Session.state_processor.Goals as goal

pub invariant_of-self : goal.invariant_of-self
invariant_of-self g c = (
  before_with_one _ _ _ _ _ _ c.self.invariant.0 c.in-Ok.ensures.ok,
  auditable_with_one _ _ _ _ _ _ c.self.invariant.1 c.in-Ok.ensures.ok,
  c.self.invariant.2,
)

pub invariant_of-self-in_default : goal.invariant_of-self-in_default
invariant_of-self-in_default g c =
    (rw c.in_default.ensures.err c.self.invariant.0, rw c.in_default.ensures.err c.self.invariant.1, λ is. absurd cc)

pub returns-clause-accepted : goal.returns-clause-accepted
returns-clause-accepted g c =
    rw (sym c.self.view_is, c.in-Ok.ensures.ok)
    (cpu-accepted _ c.args.number c.args.regs (rw (sym c.self.view_is) at c.in_ok-check_processor.ensures.accepted)
    (rw (sym c.self.view_is) at c.in_ok-check_processor.ensures.new))
