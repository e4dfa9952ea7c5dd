use Rattle.std.proofs.Common.{◌≡◌, sym, ap, ◌∙◌, arith}
use Rattle.std.proofs.lemmas.Grind.{common_steps}
use Rattle.std.specs.Prelude.{vec_len}
use Rattle.version_store.specs.Changes.{blocks_for}
use Rattle.version_store.proofs.Packing.{blocks_for-changes_in}
use Rattle.version_store.proofs.frame_changes.FrameChanges.give_back.Goals as goal

pub loop-block-init : goal.loop-block-init
loop-block-init c =
    let blocks : blocks_for c.args.self ≡ vec_len c.self.inside.blocks =
    ap blocks_for (sym c.self.view_is) ∙ (blocks_for-changes_in _ _ c.self.invariant.filled ∙ omega arith) in
    omega arith

pub returns : goal.returns
returns c =
    let blocks : blocks_for c.args.self ≡ vec_len c.self.inside.blocks =
    ap blocks_for (sym c.self.view_is) ∙ (blocks_for-changes_in _ _ c.self.invariant.filled ∙ omega arith) in
    grind (arith, common_steps, blocks)
