use Rattle.paging_laws.proofs.Readings.{walk-alike, raw_target-alike}
use Rattle.paging_laws.proofs.walks.walks_that_read_equal_entries_are_equal.Goals as goal

pub returns-clause-walks : goal.returns-clause-walks
returns-clause-walks c one other settings root x alike = walk-alike one other settings root x alike

pub returns-clause-pages : goal.returns-clause-pages
returns-clause-pages c one other settings root x alike = raw_target-alike one other settings root x alike
