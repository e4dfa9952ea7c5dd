use Rattle.paging_laws.proofs.Serving.{use_for}
use Rattle.paging_laws.proofs.walks.each_table_of_a_walk_is_used.Goals as goal

pub returns : goal.returns
returns c memory settings root x level table bits below canonical reached = use_for x level table bits below canonical reached
