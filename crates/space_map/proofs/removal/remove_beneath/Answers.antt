use Rattle.std.proofs.Common.{◌+◌, List, arith, subst, sym, take}
use Rattle.frame_index.specs.declared.counted_use.CountedUse.{CountedUse}
use Rattle.space_map.specs.PatchWalks.{AreLeft}
use Rattle.space_map.proofs.PatchPasses.{done-at, done-in}
use Rattle.space_map.proofs.Removals.{left-begins, left-next, left-lowest, left-ends}
use Rattle.space_map.proofs.removal.remove_beneath.Goals.{then-patch-gt1, else-patch-gt1}
use Rattle.space_map.proofs.removal.remove_beneath.Goals as goal

pub loop-patch-init : goal.loop-patch-init
loop-patch-init c = left-begins c.args.index.now

pub patch_first-requires : goal.patch_first-requires
patch_first-requires c =
    record { shape = c.requires.shapes _ (done-in c.args.patches.now c.loop-patch.patch-index _ (done-at c.args.patches.now c.loop-patch.patch-index _ c.loop-patch-test.true)) }

pub patch_last-requires : goal.patch_last-requires
patch_last-requires c =
    record { shape = c.requires.shapes _ (done-in c.args.patches.now c.loop-patch.patch-index _ (done-at c.args.patches.now c.loop-patch.patch-index _ c.loop-patch-test.true)) }

pub loop-patch-preserved : goal.loop-patch-preserved
loop-patch-preserved c =
    let at = done-at c.args.patches.now c.loop-patch.patch-index _ c.loop-patch-test.true in
    elim c.if-patch-gt1.branch [
      | then-patch-gt1 w ↦
          subst (λ (it : List CountedUse). AreLeft (take (c.loop-patch.patch-index + 1) c.args.patches.now) c.args.index.now it) (sym w.index-is)
          (left-next c.args.patches.now c.loop-patch.patch-index _ at c.args.index.now c.loop-patch.index w.remove_under.new.self w.patch_first.result
          w.patch_last.result w.patch_first.ensures.value w.patch_last.ensures.value c.loop-patch.invariant w.remove_under.ensures)
      | else-patch-gt1 w ↦
          subst (λ (it : List CountedUse). AreLeft (take (c.loop-patch.patch-index + 1) c.args.patches.now) c.args.index.now it) (sym w.index-is)
          (left-lowest c.args.patches.now c.loop-patch.patch-index _ at c.args.index.now c.loop-patch.index c.requires.levels
          (omega (arith, w.if-patch-gt1.false)) c.loop-patch.invariant)
    ]

pub returns : goal.returns
returns c =
    left-ends c.args.patches.now c.loop-patch.patch-index c.args.index.now c.loop-patch.index (omega (arith, c.loop-patch-test.false)) c.loop-patch.invariant
