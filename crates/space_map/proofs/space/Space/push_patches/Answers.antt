use Rattle.std.proofs.lemmas.Result.{on_ok_weaker}
use Rattle.std.proofs.Common.{refl}
use Rattle.space_map.specs.PatchWalks.{index_tables}
use Rattle.space_map.proofs.CoveredUses.{never-true}
use Rattle.space_map.proofs.FramePatches.{pushed-none, pushed-parts}
use Rattle.space_map.proofs.space.Space.push_patches.Goals as goal

pub returns-then-is_covered : goal.returns-then-is_covered
returns-then-is_covered c =
    pushed-none c.args.self.now.key.settings c.args.first c.args.last (index_tables c.args.self.now.index) c.args.table.now c.args.patches.now.items
    (c.if-is_covered.ensures.0 refl)

pub returns : goal.returns
returns c =
    on_ok_weaker c.push_parts.result
    (pushed-parts c.args.self.now.key.settings c.args.first c.args.last (index_tables c.args.self.now.index) c.args.table.now c.args.patches.now.items
    c.push_parts.new.patches.items (λ covered. never-true (c.if-is_covered.ensures.1 covered)))
    c.push_parts.ensures
