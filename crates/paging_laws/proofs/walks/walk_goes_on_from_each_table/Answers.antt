use Rattle.paging_laws.proofs.Readings.{walk-reached}
use Rattle.paging_laws.proofs.walks.walk_goes_on_from_each_table.Goals as goal

pub returns : goal.returns
returns c memory settings root x level table above reached = walk-reached reached
