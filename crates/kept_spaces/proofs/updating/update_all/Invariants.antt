use Rattle.phys_view.specs.Seen.{memory_of}
use Rattle.kept_spaces.proofs.Updates.{AreUnderway}
use Rattle.kept_spaces.proofs.updating.update_all.Given as goal

abbrev pub invariant-loop-left : goal.invariant-loop-left
invariant-loop-left g l =
    AreUnderway (memory_of l.view) l.frame l.first_slot l.last_slot l.initial.spaces.items l.spaces.items l.left
    l.initial.steps l.steps

abbrev pub decreases-loop-left : goal.decreases-loop-left
decreases-loop-left g l = l.left
