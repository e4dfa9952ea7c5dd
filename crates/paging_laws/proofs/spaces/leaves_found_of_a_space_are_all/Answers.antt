use Rattle.paging_laws.proofs.WholeSpaces.{all-leaves}
use Rattle.paging_laws.proofs.spaces.leaves_found_of_a_space_are_all.Goals as goal

pub returns : goal.returns
returns c memory settings root = all-leaves memory settings root
