use Rattle.time_sets.proofs.IntervalLists.{empty_is}
use Rattle.time_sets.proofs.times.Times.is_empty.Goals as goal

pub returns : goal.returns
returns c = rw (← c.self.view_is) (empty_is c.self.inside.intervals.items c.is_empty.result c.self.invariant c.is_empty.ensures)
