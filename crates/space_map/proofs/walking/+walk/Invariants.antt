use Rattle.std.proofs.Common.{◌+◌, ◌*◌, ◌≤◌}
use Rattle.phys_view.specs.Seen.{memory_of}
use Rattle.space_map.specs.WalkedIndexes.{IndexesSlots}
use Rattle.space_map.proofs.SlotWalks.{Walked}
use Rattle.space_map.proofs.walking.+walk.Given as goal

-- the entries before are walked
abbrev pub invariant-walk_slots-loop-k : goal.invariant-walk_slots-loop-k
invariant-walk_slots-loop-k g l = record {
  walked : Walked (memory_of l.view) l.settings l.table l.from l.k l.fn.space l.space;
  indexes : IndexesSlots (memory_of l.view) l.settings l.table l.from l.k l.fn.space l.space l.pages;
  cost : l.steps + 512 * l.fn.space.uses ≤ l.fn.steps + l.count + 512 * l.space.uses;
  few : l.pages ≤ l.k;
}

abbrev pub decreases-walk_slots : goal.decreases-walk_slots
decreases-walk_slots g l = 2 * l.table.level + 1

abbrev pub decreases-walk_entry : goal.decreases-walk_entry
decreases-walk_entry g l = 2 * l.level
