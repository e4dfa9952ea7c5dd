use Rattle.std.proofs.Common.{◌∙◌}
use Rattle.audit_core.proofs.SpaceWrites.{slots-are, were-true, write-alone, write-takes}
use Rattle.audit_core.proofs.writes.write.Goals as goal

pub returns-in-Err-clause-out_of_memory_cost : goal.returns-in-Err-clause-out_of_memory_cost
returns-in-Err-clause-out_of_memory_cost g c = λ is.
    write-alone _ _ _ _ _ _ (c.write.ensures.out_of_memory_cost (c.in-Err.is ∙ is))

pub update-requires-clause-were_true : goal.update-requires-clause-were_true
update-requires-clause-were_true g c =
    let are = slots-are _ _ _ _ _ _ _ c.in_default.ensures.ok c.requires.some c.slots_of-first_slot.ensures.first c.slots_of-first_slot.ensures.last in
    rw c.view.ensures (were-true _ _ _ _ _ _ _ _ c.in_default.ensures.ok are c.requires.are_true)

pub returns-in-Ok-clause-cost : goal.returns-in-Ok-clause-cost
returns-in-Ok-clause-cost g c =
    let are = slots-are _ _ _ _ _ _ _ c.in_default.ensures.ok c.requires.some c.slots_of-first_slot.ensures.first c.slots_of-first_slot.ensures.last in
    write-takes _ _ _ _ _ _ _ _ _ _ _ c.in_default.ensures.ok are c.in_default.ensures.cost (rw c.view.ensures at c.update.ensures.cost)

pub returns-in-Err-update-clause-out_of_memory_cost : goal.returns-in-Err-update-clause-out_of_memory_cost
returns-in-Err-update-clause-out_of_memory_cost g c = λ is.
    let are = slots-are _ _ _ _ _ _ _ c.in_default.ensures.ok c.requires.some c.slots_of-first_slot.ensures.first c.slots_of-first_slot.ensures.last in
    write-takes _ _ _ _ _ _ _ _ _ _ _ c.in_default.ensures.ok are c.in_default.ensures.cost (rw c.view.ensures at c.update.ensures.cost)
