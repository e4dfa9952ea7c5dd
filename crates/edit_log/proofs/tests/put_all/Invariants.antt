use Rattle.std.proofs.Common.{◌≡◌}
use Rattle.edit_log.proofs.tests.put_all.Given as goal

abbrev pub invariant-loop : goal.invariant-loop
invariant-loop l = l.lines.finished ≡ l.fn.lines.finished
