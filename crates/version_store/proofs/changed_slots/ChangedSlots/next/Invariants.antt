use Rattle.std.proofs.Common.{◌≡◌, ℕ, ◌-◌, ◌<◌, ◌≤◌, false, slice_index_or}
use Rattle.version_store.proofs.changed_slots.ChangedSlots.next.Given as goal

-- no slot before i changed
abbrev pub invariant-loop-i : goal.invariant-loop-i
invariant-loop-i l = record {
  least : l.fn.from ≤ l.i;
  most : l.i ≤ 512;
  before : (k : ℕ) → l.fn.from ≤ k → k < l.i → slice_index_or l.self k false ≡ false;
}

abbrev pub decreases-loop-i : goal.decreases-loop-i
decreases-loop-i l = 512 - l.i
