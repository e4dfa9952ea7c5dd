use Rattle.std.proofs.Common.{◌-◌}
use Rattle.phys_view.proofs.BlockBytes.{IsFilled}
use Rattle.phys_view.proofs.view.View.fill.Given as goal

abbrev pub decreases-loop-offset : goal.decreases-loop-offset
decreases-loop-offset g l = 4096 - l.offset

abbrev pub invariant-loop-offset : goal.invariant-loop-offset
invariant-loop-offset g l = IsFilled l.self.extents l.page l.offset l.block
