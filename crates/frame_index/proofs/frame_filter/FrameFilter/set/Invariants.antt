use Rattle.std.proofs.Common.{◌≡◌, ◌+◌, ◌-◌, ℕ, true, length}
use Rattle.frame_index.specs.FrameFlags.{frame_flag}
use Rattle.frame_index.proofs.frame_filter.FrameFilter.set.Given as goal

abbrev pub invariant-loop-self : goal.invariant-loop-self
invariant-loop-self l = (other : ℕ) → frame_flag l.initial.self.flags.items other ≡ true → frame_flag l.self.flags.items other ≡ true

abbrev pub decreases-loop-self : goal.decreases-loop-self
decreases-loop-self l = l.place + 1 - length l.self.flags.items
