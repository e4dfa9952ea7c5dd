use Rattle.std.proofs.Common.{◌≡◌, ◌≤◌}
use Rattle.phys_view.specs.Seen.{memory_of}
use Rattle.space_map.specs.WalkedIndexes.{IndexesSlots}
use Rattle.space_map.proofs.SlotWalks.{Walked}
use Rattle.space_map.proofs.walking.walk_pages.Given as goal

-- the entries before are walked
abbrev pub invariant-loop-k : goal.invariant-loop-k
invariant-loop-k g l = record {
  walked : Walked (memory_of l.view) l.settings l.table l.from l.k l.fn.space l.space;
  indexes : IndexesSlots (memory_of l.view) l.settings l.table l.from l.k l.fn.space l.space l.pages;
  uses : l.space.uses ≡ l.fn.space.uses;
  few : l.pages ≤ l.k;
}
