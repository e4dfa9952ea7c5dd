use Rattle.std.proofs.Common.{◌+◌, ◌-◌, length}
use Rattle.time_sets.proofs.IntersectionSteps.{IsMet}
use Rattle.time_sets.proofs.intersection.intersection_of.Given as goal

abbrev pub invariant-loop-i : goal.invariant-loop-i
invariant-loop-i l = IsMet l.one l.other l.both.items l.i l.j

abbrev pub decreases-loop-i : goal.decreases-loop-i
decreases-loop-i l = (length l.one - l.i) + (length l.other - l.j)
