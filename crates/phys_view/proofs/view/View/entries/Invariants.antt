use Rattle.std.proofs.Common.{◌≡◌, ◌+◌}
use Rattle.phys_view.proofs.view.View.entries.Given as goal

abbrev pub invariant-loop : goal.invariant-loop
invariant-loop g l = l.steps ≡ l.fn.steps + l.counter
