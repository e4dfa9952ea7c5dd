use Rattle.std.proofs.Common.{arith}
use Rattle.paging_reference.proofs.Numbers.{fits_one_more, at_most_eight}
use Rattle.paging_reference.proofs.physical_memory.+number_at.Goals as goal

pub returns-clause-below : goal.returns-clause-below
returns-clause-below g t c =
    fits_one_more c.from.result c.in_ok-high.high c.args.size (omega arith) (omega arith) c.in_ok-high.ensures.below

pub overflow_add-result : goal.overflow_add-result
overflow_add-result g t c =
    omega (arith, fits_one_more c.from.result c.in_ok-high.high c.args.size (omega arith) (omega arith) c.in_ok-high.ensures.below, at_most_eight c.args.size c.requires.size)

pub overflow_mul-result : goal.overflow_mul-result
overflow_mul-result g t c =
    omega (arith, fits_one_more c.from.result c.in_ok-high.high c.args.size (omega arith) (omega arith) c.in_ok-high.ensures.below, at_most_eight c.args.size c.requires.size)
