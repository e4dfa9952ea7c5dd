use Rattle.std.proofs.Common.{◌≡◌, ◌+◌, ◌^◌, ◌<◌}
use Rattle.history_model.specs.Refusals.{first_unknown}
use Rattle.phys_view.specs.Seen.{memory_of}
use Rattle.phys_view.proofs.view.View.first_unknown.Given as goal

abbrev pub decreases-loop-left : goal.decreases-loop-left
decreases-loop-left g l = l.left

-- the bytes so far are known
abbrev pub invariant-loop-left : goal.invariant-loop-left
invariant-loop-left g l = record {
  known : first_unknown (memory_of l.self) l.next l.left ≡ first_unknown (memory_of l.self) l.at l.len;
  place : l.next + l.left ≡ l.at + l.len;
  below : l.left < l.len → l.at < 2 ^ 52;
}
