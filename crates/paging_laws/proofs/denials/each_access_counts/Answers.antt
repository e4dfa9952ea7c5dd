use Rattle.paging_laws.proofs.WholeLists.{IsIn-accesses}
use Rattle.paging_laws.proofs.denials.each_access_counts.Goals as goal

pub returns : goal.returns
returns c access = IsIn-accesses access
