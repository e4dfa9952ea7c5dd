use Rattle.paging_laws.proofs.Reaching.{served_by_use}
use Rattle.paging_laws.proofs.walks.table_serves_its_range.Goals as goal

pub returns : goal.returns
returns c memory settings root x table is_use served = served_by_use table is_use served
