use Rattle.std.proofs.Common.{arith, subst, List}
use Rattle.std.specs.List.Sorted.{IsNonDecreasingBy}
use Rattle.std.proofs.lemmas.List.{take_all}
use Rattle.kept_laws.specs.declared.patches.Patch.{Patch}
use Rattle.space_map.specs.FramePatches.{start_key}
use Rattle.space_map.proofs.PatchOrders.{keys-next}
use Rattle.space_map.proofs.PatchPasses.{no_patch}
use Rattle.space_map.proofs.planning.are_sorted.Goals as goal

pub loop-patch-init : goal.loop-patch-init
loop-patch-init c = record { sorted = λ i j d order less. absurd (omega arith); most = λ k d less. absurd (omega arith) }

pub loop-patch-preserved : goal.loop-patch-preserved
loop-patch-preserved c =
    let next = keys-next c.args.patches.now c.loop-patch.patch-index no_patch c.loop-patch.before c.patch_start-start.result c.loop-patch-test.true
    c.loop-patch.invariant.sorted c.loop-patch.invariant.most c.patch_start-start.ensures c.if-start-before.false in
    record { sorted = next.0; most = next.1 }

pub returns : goal.returns
returns c is =
    subst (λ (it : List Patch). IsNonDecreasingBy start_key it)
    (take_all c.loop-patch.patch-index c.args.patches.now (omega (arith, c.loop-patch-test.false))) c.loop-patch.invariant.sorted
