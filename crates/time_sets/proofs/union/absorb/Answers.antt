use Rattle.std.proofs.Common.{arith}
use Rattle.time_sets.proofs.UnionSteps.{absorbed-apart}
use Rattle.time_sets.proofs.union.absorb.Goals as goal

pub returns-then-next-growing-gt1 : goal.returns-then-next-growing-gt1
returns-then-next-growing-gt1 c = rw c.in_ok-push.ensures.ok (absorbed-apart _ _ _ (omega arith) c.requires.growing c.requires.next)
