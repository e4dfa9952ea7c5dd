use Rattle.std.proofs.Common.{◌∙◌, arith, refl}
use Rattle.std.proofs.lemmas.Result.{err_from_is_err_and}
use Rattle.phys_view.specs.Seen.{memory_of}
use Rattle.region_map.specs.Coalesced.{target_at}
use Rattle.space_map.proofs.PatchPasses.{done-at, first-shape, shape-next, before-next, fresh-at, clear-from, passing-begins, passing-next, passing-exceeds, passing-cost, cost-next, start-first, no_patch, wrapped-page}
use Rattle.space_map.proofs.patched.walk_patches.Goals as goal

pub patch_first-next-requires : goal.patch_first-next-requires
patch_first-next-requires g c = record { shape = first-shape c.args.patches.now _ c.requires.some c.requires.shapes }

pub loop-patch-init : goal.loop-patch-init
loop-patch-init g c = record {
  passing = passing-begins (memory_of c.args.view.now) c.args.settings.now c.args.patches.now (target_at c.args.regions.now) c.args.space.now c.requires.shapes c.requires.ascending
      c.patch_first-next.result c.new-pages.result.items c.requires.clear
      (c.patch_first-next.ensures.value ∙ start-first c.args.patches.now _ c.requires.some) c.new-pages.ensures.items;
  whole = c.patch_first-next.ensures.whole;
  cost = omega arith;
}

pub walk_patch-requires-clause-shape : goal.walk_patch-requires-clause-shape
walk_patch-requires-clause-shape g c = shape-next (memory_of c.args.view.now) c.args.settings.now c.args.patches.now (target_at c.args.regions.now) c.args.space.now c.requires.shapes c.requires.ascending
    c.loop-patch.patch-index c.loop-patch.next c.loop-patch.space c.loop-patch.pages.items c.loop-patch.invariant.passing _ c.loop-patch-test.true
    (done-at c.args.patches.now c.loop-patch.patch-index _ c.loop-patch-test.true)

pub walk_patch-requires-clause-whole : goal.walk_patch-requires-clause-whole
walk_patch-requires-clause-whole g c = c.loop-patch.invariant.whole

pub walk_patch-requires-clause-before : goal.walk_patch-requires-clause-before
walk_patch-requires-clause-before g c = before-next (memory_of c.args.view.now) c.args.settings.now c.args.patches.now (target_at c.args.regions.now) c.args.space.now c.requires.shapes c.requires.ascending
    c.loop-patch.patch-index c.loop-patch.next c.loop-patch.space c.loop-patch.pages.items c.loop-patch.invariant.passing _ c.loop-patch-test.true
    (done-at c.args.patches.now c.loop-patch.patch-index _ c.loop-patch-test.true)

pub walk_patch-requires-clause-clear : goal.walk_patch-requires-clause-clear
walk_patch-requires-clause-clear g c = clear-from (memory_of c.args.view.now) c.args.settings.now c.args.patches.now (target_at c.args.regions.now) c.args.space.now c.requires.shapes c.requires.ascending
    c.loop-patch.patch-index c.loop-patch.next c.loop-patch.space c.loop-patch.pages.items c.loop-patch.invariant.passing _ c.loop-patch-test.true
    (done-at c.args.patches.now c.loop-patch.patch-index no_patch c.loop-patch-test.true)

pub walk_patch-requires-clause-fresh : goal.walk_patch-requires-clause-fresh
walk_patch-requires-clause-fresh g c = fresh-at (memory_of c.args.view.now) c.args.settings.now c.args.patches.now (target_at c.args.regions.now) c.args.space.now c.requires.shapes c.requires.ascending
    c.loop-patch.patch-index c.loop-patch.next c.loop-patch.space c.loop-patch.pages.items c.loop-patch.invariant.passing _ c.loop-patch-test.true
    (done-at c.args.patches.now c.loop-patch.patch-index _ c.loop-patch-test.true)
    c.requires.fresh

pub returns-in_err-own-clause-exceeds : goal.returns-in_err-own-clause-exceeds
returns-in_err-own-clause-exceeds g c =
    let failed = err_from_is_err_and c.from_residual.result c.from_residual.ensures.1 in
    rw (failed.1, failed.2) (λ too_large. passing-exceeds (memory_of c.args.view.now) c.args.settings.now c.args.patches.now (target_at c.args.regions.now) c.args.space.now c.requires.shapes c.requires.ascending
    c.loop-patch.patch-index c.loop-patch.next c.loop-patch.space c.loop-patch.pages.items c.loop-patch.invariant.passing _ c.loop-patch-test.true
    (done-at c.args.patches.now c.loop-patch.patch-index _ c.loop-patch-test.true)
    (c.in_err-own.ensures.exceeds too_large))

pub returns-in_err-own-clause-cost : goal.returns-in_err-own-clause-cost
returns-in_err-own-clause-cost g c = passing-cost (memory_of c.args.view.now) c.args.settings.now c.args.patches.now (target_at c.args.regions.now) c.args.space.now c.requires.shapes c.requires.ascending
    c.loop-patch.patch-index c.loop-patch.next c.loop-patch.space c.loop-patch.pages.items c.loop-patch.invariant.passing _ c.loop-patch-test.true
    (done-at c.args.patches.now c.loop-patch.patch-index _ c.loop-patch-test.true)
    c.args.steps.now c.loop-patch.steps c.walk_patch.new.steps c.walk_patch.new.space c.loop-patch.invariant.cost c.walk_patch.ensures.cost c.walk_patch.ensures.few

pub returns-in_default-clause-cost : goal.returns-in_default-clause-cost
returns-in_default-clause-cost g c = passing-cost (memory_of c.args.view.now) c.args.settings.now c.args.patches.now (target_at c.args.regions.now) c.args.space.now c.requires.shapes c.requires.ascending
    c.loop-patch.patch-index c.loop-patch.next c.loop-patch.space c.loop-patch.pages.items c.loop-patch.invariant.passing _ c.loop-patch-test.true
    (done-at c.args.patches.now c.loop-patch.patch-index _ c.loop-patch-test.true)
    c.args.steps.now c.loop-patch.steps c.walk_patch.new.steps c.walk_patch.new.space c.loop-patch.invariant.cost c.walk_patch.ensures.cost c.walk_patch.ensures.few

pub patch_last-next-requires : goal.patch_last-next-requires
patch_last-next-requires g c = record {
  shape = shape-next (memory_of c.args.view.now) c.args.settings.now c.args.patches.now (target_at c.args.regions.now) c.args.space.now c.requires.shapes c.requires.ascending
      c.loop-patch.patch-index c.loop-patch.next c.loop-patch.space c.loop-patch.pages.items c.loop-patch.invariant.passing _ c.loop-patch-test.true
      (done-at c.args.patches.now c.loop-patch.patch-index _ c.loop-patch-test.true);
}

pub loop-patch-preserved : goal.loop-patch-preserved
loop-patch-preserved g c = record {
  passing = passing-next (memory_of c.args.view.now) c.args.settings.now c.args.patches.now (target_at c.args.regions.now) c.args.space.now c.requires.shapes c.requires.ascending
      c.loop-patch.patch-index c.loop-patch.next c.loop-patch.space c.loop-patch.pages.items c.loop-patch.invariant.passing _ c.loop-patch-test.true
      (done-at c.args.patches.now c.loop-patch.patch-index _ c.loop-patch-test.true)
      c.walk_patch.new.space c.in_ok-own.own c.patch_last-next.result _ c.push.new.self.items c.in-Ok.ensures.items
      c.in_ok-own.ensures.walked c.patch_last-next.ensures.value refl;
  whole = wrapped-page c.patch_last-next.result c.patch_last-next.ensures.whole;
  cost = cost-next (memory_of c.args.view.now) c.args.settings.now c.args.patches.now (target_at c.args.regions.now) c.args.space.now c.requires.shapes c.requires.ascending
      c.loop-patch.patch-index c.loop-patch.next c.loop-patch.space c.loop-patch.pages.items c.loop-patch.invariant.passing _ c.loop-patch-test.true
      (done-at c.args.patches.now c.loop-patch.patch-index _ c.loop-patch-test.true)
      c.args.steps.now c.loop-patch.steps c.walk_patch.new.steps c.walk_patch.new.space c.loop-patch.invariant.cost c.walk_patch.ensures.cost;
}
