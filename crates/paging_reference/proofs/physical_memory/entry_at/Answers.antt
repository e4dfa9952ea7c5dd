use Rattle.paging_model.specs.Memory.{entry_at}
use Rattle.paging_reference.proofs.physical_memory.entry_at.Goals as goal

pub returns : goal.returns
unfolding entry_at
returns g c = c.number_at.ensures.value
