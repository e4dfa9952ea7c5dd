use Rattle.std.proofs.Common.{length}
use Rattle.history_reference.proofs.visits.+with_number.Given as goal

abbrev pub decreases-with_number : goal.decreases-with_number
decreases-with_number l = length l.list.now
