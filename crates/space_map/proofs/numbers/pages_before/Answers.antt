use Rattle.std.proofs.Common.{List, ap, ◌∙◌, arith}
use Rattle.std.specs.Prelude.{map}
use Rattle.std.proofs.lemmas.List.{take_all}
use Rattle.kept_laws.specs.PageNumbers.{pages_in_patch}
use Rattle.kept_laws.specs.declared.patches.Patch.{Patch}
use Rattle.space_map.proofs.PatchPasses.{done-at, done-in, numbers-next}
use Rattle.space_map.proofs.numbers.pages_before.Goals as goal

pub patch_pages-requires : goal.patch_pages-requires
patch_pages-requires c =
    record { shape = c.requires.shapes _ (done-in c.args.patches.now c.loop-patch.patch-index _ (done-at c.args.patches.now c.loop-patch.patch-index _ c.loop-patch-test.true)) }

pub loop-patch-preserved : goal.loop-patch-preserved
loop-patch-preserved c written memory settings root are is_map all =
    let at = done-at c.args.patches.now c.loop-patch.patch-index _ c.loop-patch-test.true in
    numbers-next memory settings c.args.patches.now c.loop-patch.patch-index _ at c.loop-patch.pages.items c.push.new.self.items c.patch_pages.result
    c.in_ok-push.ensures.items (c.loop-patch.invariant written memory settings root are is_map all)
    (c.patch_pages.ensures written memory settings root (are.each _ (done-in c.args.patches.now c.loop-patch.patch-index _ at)) is_map all)

pub returns : goal.returns
returns c written memory settings root are is_map all =
    c.loop-patch.invariant written memory settings root are is_map all
    ∙ ap (λ (it : List Patch). map (λ (patch : Patch). pages_in_patch memory settings patch) it)
    (take_all c.loop-patch.patch-index c.args.patches.now (omega (arith, c.loop-patch-test.false)))
