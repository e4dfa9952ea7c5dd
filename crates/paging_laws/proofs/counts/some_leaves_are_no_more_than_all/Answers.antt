use Rattle.paging_laws.proofs.Pigeonholes.{some_are_no_more}
use Rattle.paging_laws.proofs.counts.some_leaves_are_no_more_than_all.Goals as goal

pub returns : goal.returns
returns c memory settings root some all are_some are_all = some_are_no_more some all are_some are_all
