use Rattle.std.proofs.Common.{◌≡◌, ◌+◌, ◌≤◌}
use Rattle.std.specs.Prelude.{vec_len, vec_capacity}
use Rattle.block_pool.proofs.pool.Pool.reserve.Given as goal

abbrev pub invariant-loop : goal.invariant-loop
invariant-loop l = record {
  live : l.self-inside.live ≡ l.fn.self.live;
  before : l.before ≡ l.fn.self.spare;
  spare : vec_len l.self-inside.spare ≡ l.before + l.counter;
  room : l.self-inside.live + (l.before + l.more) ≤ vec_capacity l.self-inside.spare;
}
