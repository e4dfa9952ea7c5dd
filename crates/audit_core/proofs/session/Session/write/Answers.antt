use Rattle.std.proofs.Common.{sym}
use Rattle.std.proofs.lemmas.Result.{on_ok_weaker}
use Rattle.audit_core.proofs.AuditableHosts.{auditable_still}
use Rattle.audit_core.proofs.EventLaws.{on_both, said-of-memory, write-accepted}
use Rattle.audit_core.proofs.NotingLaws.{before_still}
use Rattle.audit_core.proofs.SpaceLists.{write-steps}
use Rattle.audit_core.proofs.SpaceWrites.{said-done, said-memory, true-written}
use Rattle.audit_core.proofs.session.Session.write.Goals as goal

pub invariant_of-self : goal.invariant_of-self
invariant_of-self g c = (
  before_still c.write-written.result c.self.inside.hosts c.self.inside.happened c.go_on.new.happened c.self.invariant.0
      c.go_on.ensures.counted c.go_on.ensures.not_counted,
  auditable_still c.write-written.result c.self.inside.hosts c.self.inside.happened c.go_on.new.happened c.self.invariant.1
      c.go_on.ensures.counted c.go_on.ensures.not_counted,
  true-written c.write-written.result _ c.write-written.new.memory _ _ _ _ c.self.invariant.2 c.write-written.ensures.updated
      c.write-written.ensures.unchanged c.go_on.ensures.unpoisoned,
)

pub returns-clause-accepted : goal.returns-clause-accepted
returns-clause-accepted g c =
    rw (sym c.self.view_is, sym c.as_slice.ensures.value)
    (said-of-memory c.write-written.result c.go_on.result _ c.write-written.new.memory c.write-written.new.spaces _ _ _
    c.go_on.ensures.answer c.go_on.ensures.fault c.go_on.ensures.counted c.go_on.ensures.stays
    (on_ok_weaker c.write-written.result
    (λ both. write-accepted _ c.write-written.new.memory c.write-written.new.spaces c.args.at _ both.0 both.1)
    (on_both _ _ c.write-written.result c.write-written.ensures.ok c.write-written.ensures.updated)))

pub returns-clause-cost : goal.returns-clause-cost
returns-clause-cost g c =
    rw (sym c.self.view_is, sym c.as_slice.ensures.value)
    (λ moment has. said-done c.write-written.result c.go_on.result _ c.go_on.ensures.answer c.go_on.ensures.fault
    (on_ok_weaker c.write-written.result (λ takes. write-steps _ _ _ _ _ takes moment has) c.write-written.ensures.cost))

pub returns-clause-out_of_memory_cost : goal.returns-clause-out_of_memory_cost
returns-clause-out_of_memory_cost g c =
    rw (sym c.self.view_is, sym c.as_slice.ensures.value)
    (λ moment has. said-memory c.write-written.result c.go_on.result _ c.go_on.ensures.answer c.go_on.ensures.fault
    (λ is. write-steps _ _ _ _ _ (c.write-written.ensures.out_of_memory_cost is) moment has))
