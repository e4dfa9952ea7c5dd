use Rattle.std.proofs.Common.{◌≤◌, length}
use Rattle.version_store.proofs.frame_changes.FrameChanges.count_until.Given as goal

abbrev pub invariant-loop-count : goal.invariant-loop-count
invariant-loop-count l = l.count ≤ length l.self

abbrev pub decreases-loop-count : goal.decreases-loop-count
decreases-loop-count l = l.count
