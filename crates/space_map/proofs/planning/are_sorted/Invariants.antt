use Rattle.std.proofs.Common.{◌≤◌, take}
use Rattle.std.specs.Prelude.{All}
use Rattle.std.specs.List.Sorted.{IsNonDecreasingBy}
use Rattle.kept_laws.specs.declared.patches.Patch.{Patch}
use Rattle.space_map.specs.FramePatches.{start_key}
use Rattle.space_map.proofs.planning.are_sorted.Given as goal

abbrev pub invariant-loop-patch : goal.invariant-loop-patch
invariant-loop-patch l = record {
  sorted : IsNonDecreasingBy start_key (take l.patch-index l.patches);
  most : All (λ (patch : Patch). start_key patch ≤ l.before) (take l.patch-index l.patches);
}
