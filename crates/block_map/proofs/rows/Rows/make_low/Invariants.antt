use Rattle.std.proofs.Common.{◌≡◌, ℕ, ◌-◌, ◌+◌}
use Rattle.std.specs.Prelude.{vec_len}
use Rattle.block_map.specs.Rows.{block_at}
use Rattle.block_map.proofs.rows.Rows.make_low.Given as goal

abbrev pub invariant-loop-self : goal.invariant-loop-self
invariant-loop-self l = (n : ℕ) → block_at l.self n ≡ block_at l.fn.self n

abbrev pub decreases-loop-self : goal.decreases-loop-self
decreases-loop-self l = l.key + 1 - vec_len l.self.low
