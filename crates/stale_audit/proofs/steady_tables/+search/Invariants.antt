use Rattle.std.proofs.Common.{ℕ, ◌+◌, ◌-◌, ◌*◌, ◌<◌, ◌≤◌}
use Rattle.stale_audit.specs.SteadyTables.{AreKnownSteady, IsSteadyBelow}
use Rattle.stale_audit.proofs.steady_tables.+search.Given as goal

abbrev pub decreases-is_steady : goal.decreases-is_steady
decreases-is_steady g l = 3 * l.level + 2

abbrev pub decreases-next_unsteady : goal.decreases-next_unsteady
decreases-next_unsteady g l = 3 * l.level + 1

abbrev pub decreases-is_steady_below : goal.decreases-is_steady_below
decreases-is_steady_below g l = 3 * l.level

abbrev pub decreases-next_unsteady-loop-i : goal.decreases-next_unsteady-loop-i
decreases-next_unsteady-loop-i g l = l.end - l.i

-- the tables that the slots before i reference are steady
abbrev pub invariant-next_unsteady-loop-i : goal.invariant-next_unsteady-loop-i
invariant-next_unsteady-loop-i g l = record {
  known : AreKnownSteady l.point l.known;
  least : l.from ≤ l.i;
  most : l.i ≤ l.end;
  steady : (k : ℕ) → l.from ≤ k → k < l.i → IsSteadyBelow l.point l.level (l.entries.at + 8 * k);
}
