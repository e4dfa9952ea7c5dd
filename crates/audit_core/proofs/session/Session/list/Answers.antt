use Rattle.std.proofs.Common.{sym, arith}
use Rattle.audit_core.proofs.AuditableHosts.{auditable_later}
use Rattle.audit_core.proofs.HostLaws.{hosts_later}
use Rattle.audit_core.proofs.SpaceLists.{list-accepted, list-steps}
use Rattle.audit_core.proofs.session.Session.list.Goals as goal

pub returns-clause-accepted : goal.returns-clause-accepted
returns-clause-accepted g c =
    let found = rw c.in_ok-regs.ensures.ok_part at c.regs.ensures in
    rw (sym c.self.view_is) (list-accepted _ c.args.cpu _ c.list-listed.new.spaces c.in-Ok.answer (sym found)
    (rw c.view.ensures at c.in-Ok.ensures.value) (rw c.view.ensures at c.in-Ok.ensures.are_kept))

pub returns-clause-cost : goal.returns-clause-cost
returns-clause-cost g c =
    let found = rw c.in_ok-regs.ensures.ok_part at c.regs.ensures in
    rw (sym c.self.view_is) (list-steps _ c.args.cpu _ _ _ (sym found) (rw c.view.ensures at c.in-Ok.ensures.cost))

pub returns-in_default-clause-out_of_memory_cost : goal.returns-in_default-clause-out_of_memory_cost
returns-in_default-clause-out_of_memory_cost g c =
    let found = rw c.in_ok-regs.ensures.ok_part at c.regs.ensures in
    rw (sym c.self.view_is)
    (λ moment has memory. list-steps _ c.args.cpu _ _ _ (sym found) (rw c.view.ensures at c.list-listed.ensures.cost) moment has)

pub invariant_of-self-2 : goal.invariant_of-self-2
invariant_of-self-2 g c = (
  hosts_later _ _ _ (omega arith) c.self.invariant.0,
  auditable_later _ _ _ (omega arith) c.self.invariant.1,
  λ is. rw c.view.ensures at c.in-Ok.ensures.are_true,
)
