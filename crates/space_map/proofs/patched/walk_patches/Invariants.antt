use Rattle.std.proofs.Common.{◌≡◌, ◌%◌, ◌+◌, ◌*◌, ◌≤◌, take}
use Rattle.kept_laws.specs.Patches.{entries_of}
use Rattle.phys_view.specs.Seen.{memory_of}
use Rattle.region_map.specs.Coalesced.{target_at}
use Rattle.space_map.proofs.PatchPasses.{IsPassing}
use Rattle.space_map.proofs.patched.walk_patches.Given as goal

-- the patches before are walked
abbrev pub invariant-loop-patch : goal.invariant-loop-patch
invariant-loop-patch g l = record {
  passing : IsPassing (memory_of l.view) l.settings l.patches l.patch-index l.next (target_at l.regions) l.fn.space l.space l.pages.items;
  whole : l.next % 4096 ≡ 0;
  cost : l.steps + 512 * l.fn.space.uses ≤ l.fn.steps + entries_of (take l.patch-index l.patches) + 512 * l.space.uses;
}
