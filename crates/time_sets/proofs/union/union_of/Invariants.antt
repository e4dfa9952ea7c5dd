use Rattle.std.proofs.Common.{◌+◌, ◌-◌, length}
use Rattle.time_sets.proofs.UnionSteps.{IsJoined}
use Rattle.time_sets.proofs.union.union_of.Given as goal

abbrev pub invariant-loop-i : goal.invariant-loop-i
invariant-loop-i l = IsJoined l.one l.other l.all.items l.growing l.i l.j

abbrev pub decreases-loop-i : goal.decreases-loop-i
decreases-loop-i l = (length l.one - l.i) + (length l.other - l.j)
