use Rattle.paging_laws.proofs.SpaceHalves.{lower-half, upper-half}
use Rattle.paging_laws.proofs.spaces.half_of_the_top_table_serves_half_of_the_space.Goals as goal

pub returns-clause-lower : goal.returns-clause-lower
returns-clause-lower c memory settings root = lower-half memory settings root

pub returns-clause-upper : goal.returns-clause-upper
returns-clause-upper c memory settings root = upper-half memory settings root
