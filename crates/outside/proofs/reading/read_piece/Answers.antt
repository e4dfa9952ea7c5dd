use Rattle.std.proofs.Common.{arith}
use Rattle.std.proofs.lemmas.Grind.{common_steps}
use Rattle.outside.proofs.Prefixes.{IsBytePrefix-append}
use Rattle.outside.proofs.reading.read_piece.Goals as goal

pub returns-clause-prefix : goal.returns-clause-prefix
returns-clause-prefix g c = λ content known prefix.
    rw (c.in_ok-extend_from_slice.ensures.items) (IsBytePrefix-append content _ c.read_at.new.into c.len.result c.in_ok-count.count (grind (arith, common_steps)) prefix (rw known at c.in_ok-count.ensures.content) (omega (arith, c.in_ok-count.ensures.within)))
