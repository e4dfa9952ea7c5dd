use Rattle.paging_laws.proofs.WholeSpaces.{all-uses}
use Rattle.paging_laws.proofs.spaces.uses_found_of_a_space_are_all.Goals as goal

pub returns : goal.returns
returns c memory settings root = all-uses memory settings root
