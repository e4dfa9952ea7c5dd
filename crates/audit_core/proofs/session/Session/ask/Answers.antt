use Rattle.std.proofs.Common.{sym, arith}
use Rattle.audit_core.proofs.AuditableHosts.{auditable_later}
use Rattle.audit_core.proofs.EventLaws.{ask-accepted}
use Rattle.audit_core.proofs.HostLaws.{hosts_later}
use Rattle.audit_core.proofs.session.Session.ask.Goals as goal

pub invariant_of-self : goal.invariant_of-self
invariant_of-self g c = (
  hosts_later _ _ _ (omega arith) c.self.invariant.0,
  auditable_later _ _ _ (omega arith) c.self.invariant.1,
  c.self.invariant.2,
)

pub returns-clause-accepted : goal.returns-clause-accepted
returns-clause-accepted g c =
    let found = rw c.in_ok-regs.ensures.ok_part at c.regs.ensures in
    rw (sym c.self.view_is) (ask-accepted _ c.args.cpu _ _ _ _ (sym found)
    (rw c.view.ensures at c.ask-answer.ensures.value))
