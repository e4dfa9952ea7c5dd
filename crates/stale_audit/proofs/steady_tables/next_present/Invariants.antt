use Rattle.std.proofs.Common.{ℕ, ◌+◌, ◌-◌, ◌*◌, ◌<◌, ◌≤◌}
use Rattle.paging_model.specs.Memory.{entry_at}
use Rattle.phys_view.specs.Seen.{memory_of}
use Rattle.stale_audit.specs.SteadyTables.{IsAbsent}
use Rattle.stale_audit.proofs.steady_tables.next_present.Given as goal

abbrev pub decreases-loop-i : goal.decreases-loop-i
decreases-loop-i g l = l.end - l.i

-- the entries before i are absent
abbrev pub invariant-loop-i : goal.invariant-loop-i
invariant-loop-i g l = record {
  least : l.fn.from ≤ l.i;
  most : l.i ≤ l.end;
  absent : (k : ℕ) → l.fn.from ≤ k → k < l.i → IsAbsent (entry_at (memory_of l.entries.seen) (l.entries.at + 8 * k));
}

-- the entries before k are absent
abbrev pub invariant-loop-k : goal.invariant-loop-k
invariant-loop-k g l = record {
  absent : (n : ℕ) → l.fn.from ≤ n → n < l.k → IsAbsent (entry_at (memory_of l.entries.seen) (l.entries.at + 8 * n));
}
