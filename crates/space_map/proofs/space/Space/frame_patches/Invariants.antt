use Rattle.std.proofs.Common.{take}
use Rattle.space_map.specs.FramePatches.{ArePatchesOf}
use Rattle.space_map.specs.PatchWalks.{index_tables}
use Rattle.space_map.proofs.space.Space.frame_patches.Given as goal

abbrev pub invariant-loop-table : goal.invariant-loop-table
invariant-loop-table l =
    ArePatchesOf l.self.key.settings l.first l.last l.frame (index_tables l.self.index) (take l.table-index l.tables) l.patches.items
