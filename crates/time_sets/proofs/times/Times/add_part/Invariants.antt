use Rattle.time_sets.proofs.PartSteps.{IsPartAdded}
use Rattle.time_sets.proofs.times.Times.add_part.Given as goal

abbrev pub invariant-loop-number : goal.invariant-loop-number
invariant-loop-number l = IsPartAdded l.fn.self l.other l.self (l.first, l.last) l.number
