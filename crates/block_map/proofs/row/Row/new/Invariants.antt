use Rattle.std.proofs.Common.{◌≡◌, ℕ, ◌≤◌, None}
use Rattle.std.specs.Prelude.{vec_len, vec_capacity}
use Rattle.block_map.specs.Slots.{slot_at}
use Rattle.block_map.proofs.row.Row.new.Given as goal

abbrev pub invariant-loop : goal.invariant-loop
invariant-loop l = record {
  empty : (place : ℕ) → slot_at l.slots.items place ≡ None;
  count : vec_len l.slots ≡ l.counter;
  room : 64 ≤ vec_capacity l.slots;
}
