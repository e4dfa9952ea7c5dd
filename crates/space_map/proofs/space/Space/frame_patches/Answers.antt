use Rattle.std.proofs.Common.{◌≡◌, List, ◌∙◌, subst, sym, arith}
use Rattle.paging_model.specs.declared.spaces.TableUse.{TableUse}
use Rattle.frame_index.specs.CountedUses.{AreOrdered, AreThose}
use Rattle.space_map.proofs.FramePatches.{patches-begin, patches-end, patches-next, use-at, use-frame, use-has, use-in, use-serves}
use Rattle.space_map.proofs.space.Space.frame_patches.Goals as goal

pub loop-table-init : goal.loop-table-init
loop-table-init c =
    patches-begin c.args.self.now.key.settings c.args.first c.args.last c.args.frame c.args.self.now.index c.args.self.now.serving c.as_slice-tables.result.now
    (subst (λ (it : List TableUse). AreThose (λ (table : TableUse). table.frame ≡ c.args.frame) c.args.self.now.index it)
    (sym c.as_slice-tables.ensures) c.in_ok-uses.ensures)
    c.new-patches.result.items c.new-patches.ensures.items

pub highest_level-highest-requires : goal.highest_level-highest-requires
highest_level-highest-requires c = subst AreOrdered (sym c.as_slice-tables.ensures) c.in_ok-uses.ensures.ordered

pub push_patches-requires-clause-is_in : goal.push_patches-requires-clause-is_in
push_patches-requires-clause-is_in c =
    use-in c.args.self.now.key.settings c.args.first c.args.last c.args.frame c.args.self.now.index c.args.self.now.serving c.as_slice-tables.result.now
    (subst (λ (it : List TableUse). AreThose (λ (table : TableUse). table.frame ≡ c.args.frame) c.args.self.now.index it)
    (sym c.as_slice-tables.ensures) c.in_ok-uses.ensures)
    _ (use-at c.args.self.now.key.settings c.args.first c.args.last c.args.frame c.args.self.now.index c.args.self.now.serving c.as_slice-tables.result.now
    (subst (λ (it : List TableUse). AreThose (λ (table : TableUse). table.frame ≡ c.args.frame) c.args.self.now.index it)
    (sym c.as_slice-tables.ensures) c.in_ok-uses.ensures)
    c.loop-table.table-index _ c.loop-table-test.true)

pub push_patches-requires-clause-highest : goal.push_patches-requires-clause-highest
push_patches-requires-clause-highest c one is same =
    c.highest_level-highest.ensures.above one
    (use-has c.args.self.now.key.settings c.args.first c.args.last c.args.frame c.args.self.now.index c.args.self.now.serving c.as_slice-tables.result.now
    (subst (λ (it : List TableUse). AreThose (λ (table : TableUse). table.frame ≡ c.args.frame) c.args.self.now.index it)
    (sym c.as_slice-tables.ensures) c.in_ok-uses.ensures)
    one is
    (same ∙ use-frame c.args.self.now.key.settings c.args.first c.args.last c.args.frame c.args.self.now.index c.args.self.now.serving c.as_slice-tables.result.now
    (subst (λ (it : List TableUse). AreThose (λ (table : TableUse). table.frame ≡ c.args.frame) c.args.self.now.index it)
    (sym c.as_slice-tables.ensures) c.in_ok-uses.ensures)
    _ (use-at c.args.self.now.key.settings c.args.first c.args.last c.args.frame c.args.self.now.index c.args.self.now.serving c.as_slice-tables.result.now
    (subst (λ (it : List TableUse). AreThose (λ (table : TableUse). table.frame ≡ c.args.frame) c.args.self.now.index it)
    (sym c.as_slice-tables.ensures) c.in_ok-uses.ensures)
    c.loop-table.table-index _ c.loop-table-test.true)))

pub push_patches-requires-clause-most : goal.push_patches-requires-clause-most
push_patches-requires-clause-most c =
    c.highest_level-highest.ensures.least _
    (λ table is. (use-serves c.args.self.now.key.settings c.args.first c.args.last c.args.frame c.args.self.now.index c.args.self.now.serving c.as_slice-tables.result.now
    (subst (λ (it : List TableUse). AreThose (λ (table : TableUse). table.frame ≡ c.args.frame) c.args.self.now.index it)
    (sym c.as_slice-tables.ensures) c.in_ok-uses.ensures)
    table is).1)

pub loop-table-preserved : goal.loop-table-preserved
loop-table-preserved c =
    patches-next c.args.self.now.key.settings c.args.first c.args.last c.args.frame c.args.self.now.index c.args.self.now.serving c.as_slice-tables.result.now
    (subst (λ (it : List TableUse). AreThose (λ (table : TableUse). table.frame ≡ c.args.frame) c.args.self.now.index it)
    (sym c.as_slice-tables.ensures) c.in_ok-uses.ensures)
    c.loop-table.table-index _ c.loop-table-test.true c.loop-table.patches.items c.push_patches.new.patches.items
    c.loop-table.invariant c.in_ok-push_patches.ensures

pub returns : goal.returns
returns c =
    patches-end c.args.self.now.key.settings c.args.first c.args.last c.args.frame c.args.self.now.index c.args.self.now.serving c.as_slice-tables.result.now
    (subst (λ (it : List TableUse). AreThose (λ (table : TableUse). table.frame ≡ c.args.frame) c.args.self.now.index it)
    (sym c.as_slice-tables.ensures) c.in_ok-uses.ensures)
    c.loop-table.table-index c.loop-table.patches.items (omega (arith, c.loop-table-test.false)) c.loop-table.invariant
