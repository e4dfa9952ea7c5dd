use Rattle.std.proofs.Common.{◌≡◌, ◌+◌, ◌%◌, ◌^◌, ◌<◌, ◌≤◌}
use Rattle.paging_model.specs.Walking.{walk, walk_from, top_level}
use Rattle.phys_view.specs.Seen.{memory_of}
use Rattle.walk_levels.proofs.walking.walk.Given as goal

-- what is left of the walk is the whole walk
abbrev pub invariant-loop-value : goal.invariant-loop-value
invariant-loop-value g l = record {
  walked : walk_from (memory_of l.view) l.settings l.level l.address l.table l.bits ≡ walk (memory_of l.view) l.settings l.root l.address;
  least : 1 ≤ l.level;
  most : l.level ≤ top_level l.settings;
  steps : l.steps + l.level ≡ l.fn.steps + top_level l.settings;
  aligned : l.table % 4096 ≡ 0;
  below : l.table < 2 ^ 52;
}

abbrev pub decreases-loop-value : goal.decreases-loop-value
decreases-loop-value g l = l.level
