use Rattle.std.proofs.Common.{◌≡◌, drop}
use Rattle.version_store.specs.Changes.{old_in}
use Rattle.version_store.proofs.frame_changes.FrameChanges.first_after.Given as goal

abbrev pub invariant-loop-number : goal.invariant-loop-number
invariant-loop-number l = old_in (drop l.number l.self) l.offset l.time ≡ old_in l.self l.offset l.time
