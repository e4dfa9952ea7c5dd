use Rattle.std.proofs.Common.{◌≡◌, ◌+◌, ◌≤◌}
use Rattle.std.specs.Prelude.{vec_len}
use Rattle.version_store.proofs.frame_changes.FrameChanges.give_back.Given as goal

abbrev pub invariant-loop-block : goal.invariant-loop-block
invariant-loop-block l = record {
  enough : vec_len l.blocks ≤ l.pool.live;
  counts : l.pool.live + vec_len l.initial.blocks ≡ l.fn.pool.live + vec_len l.blocks;
}

abbrev pub decreases-loop-block : goal.decreases-loop-block
decreases-loop-block l = vec_len l.blocks
