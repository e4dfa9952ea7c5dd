use Rattle.paging_reference.proofs.physical_memory.+number_at.Given as goal

abbrev pub decreases-number_at : goal.decreases-number_at
decreases-number_at g l = l.size
