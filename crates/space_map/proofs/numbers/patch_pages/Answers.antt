use Rattle.std.proofs.Common.{◌≡◌, ◌+◌, ℕ, sym, ap, ◌∙◌, subst, arith}
use Rattle.kept_laws.specs.PageNumbers.{pages_in}
use Rattle.page_laws.proofs.PageCounts.{high-none, pages_in-empty}
use Rattle.std.specs.Prelude.{Bool, if◌then◌else◌}
use Rattle.space_map.proofs.PageCounts.{page-more, plus-nothing}
use Rattle.space_map.proofs.numbers.patch_pages.Goals.{then-maps_page, else-maps_page}
use Rattle.space_map.proofs.numbers.patch_pages.Goals as goal

pub returns-then-patch-ge4 : goal.returns-then-patch-ge4
returns-then-patch-ge4 c written memory settings root is_patch is_map all =
    sym (high-none memory settings c.args.patch.now.table.level c.args.patch.now.table.frame c.args.patch.now.from c.args.patch.now.count (omega (arith, c.if-patch-ge4.true)))

pub loop-k-init : goal.loop-k-init
loop-k-init c = record {
  few = omega arith;
  pages_are = λ written memory settings root is_patch is_map all.
      sym (pages_in-empty memory settings c.args.patch.now.table.level c.args.patch.now.table.frame c.args.patch.now.from);
}

pub loop-k-preserved : goal.loop-k-preserved
loop-k-preserved c = elim c.if-maps_page.branch [
  | then-maps_page w ↦ record {
    few = omega (arith, c.loop-k.invariant.few, w.pages-is);
    pages_are = λ written memory settings root is_patch is_map all.
        page-more memory settings c.args.patch.now c.loop-k.k c.loop-k.pages c.if-maps_page.pages c.maps_page.result
        (c.loop-k.invariant.pages_are written memory settings root is_patch is_map all) (c.maps_page.ensures written memory settings root is_patch is_map all)
        (w.pages-is ∙ ap (λ (b : Bool). c.loop-k.pages + (if b then 1 else 0)) (sym w.if-maps_page.true));
  }
  | else-maps_page w ↦ record {
    few = omega (arith, c.loop-k.invariant.few, w.pages-is);
    pages_are = λ written memory settings root is_patch is_map all.
        page-more memory settings c.args.patch.now c.loop-k.k c.loop-k.pages c.if-maps_page.pages c.maps_page.result
        (c.loop-k.invariant.pages_are written memory settings root is_patch is_map all) (c.maps_page.ensures written memory settings root is_patch is_map all)
        (w.pages-is ∙ (plus-nothing c.loop-k.pages ∙ ap (λ (b : Bool). c.loop-k.pages + (if b then 1 else 0)) (sym w.if-maps_page.false)));
  }
]

pub returns : goal.returns
returns c written memory settings root is_patch is_map all =
    let whole : c.loop-k.k ≡ c.args.patch.now.count = omega (arith, c.loop-k.auto.k-end, c.loop-k-test.false) in
    subst (λ (n : ℕ). c.loop-k.pages ≡ pages_in memory settings c.args.patch.now.table.level c.args.patch.now.table.frame c.args.patch.now.from n) whole
    (c.loop-k.invariant.pages_are written memory settings root is_patch is_map all)
