use Rattle.audit_core.proofs.SpaceLists.{ask-steps, on_ok, point-steps}
use Rattle.audit_core.proofs.session.Session.handle.Goals as goal

pub returns-in-Ask-clause-cost : goal.returns-in-Ask-clause-cost
returns-in-Ask-clause-cost g c =
    rw c.in-Ask.is (λ moment has. ask-steps c.ask.result _ _ _ _ _ c.ask.ensures.cost moment)

pub returns-in-Point-clause-cost : goal.returns-in-Point-clause-cost
returns-in-Point-clause-cost g c =
    rw c.in-Point.is (λ moment has. on_ok c.point.result _ (point-steps moment _ _ _))

pub returns-in-Point-clause-out_of_memory_cost : goal.returns-in-Point-clause-out_of_memory_cost
returns-in-Point-clause-out_of_memory_cost g c = rw c.in-Point.is (λ moment has memory. point-steps moment _ _ _)
