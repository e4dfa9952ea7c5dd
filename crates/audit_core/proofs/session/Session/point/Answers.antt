use Rattle.std.proofs.Common.{sym, arith}
use Rattle.audit_core.proofs.AuditableHosts.{auditable_later}
use Rattle.audit_core.proofs.HostLaws.{hosts_later}
use Rattle.audit_core.proofs.PointLaws.{point-accepted}
use Rattle.audit_core.proofs.session.Session.point.Goals as goal

pub invariant_of-self-2 : goal.invariant_of-self-2
invariant_of-self-2 g c = (
  hosts_later _ _ _ (omega arith) c.self.invariant.0,
  auditable_later _ _ _ (omega arith) c.self.invariant.1,
  c.self.invariant.2,
)

pub returns-clause-accepted : goal.returns-clause-accepted
returns-clause-accepted g c =
    rw (sym c.self.view_is)
    (point-accepted _ c.args.all c.in-Ok.findings (rw (c.view.ensures, c.changes.ensures, c.as_slice.ensures) at c.in-Ok.ensures))
