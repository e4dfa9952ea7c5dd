use Rattle.std.proofs.Common.{ℕ, ◌<◌}
use Rattle.space_map.specs.FramePatches.{IsCoveredAt}
use Rattle.space_map.specs.PatchWalks.{index_tables}
use Rattle.space_map.proofs.space.Space.is_covered.Given as goal

abbrev pub invariant-loop-level : goal.invariant-loop-level
invariant-loop-level l =
    (level : ℕ) → l.table.level < level → level < l.level
    → IsCoveredAt l.self.key.settings l.first l.last l.table.frame (index_tables l.self.index) l.table level → ⊥
