use Rattle.kept_laws.proofs.Unwritten.{walk-unwritten, raw_target-unwritten, none-there}
use Rattle.kept_laws.proofs.writes.walks_that_read_nothing_written_stay.Goals as goal

pub returns-clause-walks : goal.returns-clause-walks
returns-clause-walks c written one other settings root x alike none = walk-unwritten written one other settings root x alike none

pub returns-clause-pages : goal.returns-clause-pages
returns-clause-pages c written one other settings root x alike none = raw_target-unwritten written one other settings root x alike none

pub returns-clause-none : goal.returns-clause-none
returns-clause-none c written one other settings root x alike none = none-there written one other settings root x alike none
