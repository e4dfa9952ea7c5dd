use Rattle.std.proofs.Common.{length}
use Rattle.history_reference.proofs.visits.+scope_in.Given as goal

abbrev pub decreases-scope_in : goal.decreases-scope_in
decreases-scope_in l = length l.list.now
