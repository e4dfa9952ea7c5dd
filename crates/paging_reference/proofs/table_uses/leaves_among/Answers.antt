use Rattle.std.proofs.Common.{◌↔◌, ℕ, ◌+◌, List, get_or, take, subst}
use Rattle.std.proofs.lemmas.List.{take_all}
use Rattle.paging_model.specs.Counting.{IsIn}
use Rattle.paging_reference.specs.TableLists.{IsLeafAmong}
use Rattle.paging_reference.proofs.Membership.{IsIn-take, any_default}
use Rattle.paging_reference.proofs.ReachedTables.{leaves-next}
use Rattle.paging_reference.proofs.table_uses.leaves_among.Goals as goal

pub loop-prefix-preserved : goal.loop-prefix-preserved
loop-prefix-preserved g c leaf =
    let prefixes : List ℕ = c.args.prefixes.now in
    let i = c.loop-prefix.prefix-index in
    leaves-next _ _ _ (take i prefixes) (take (i + 1) prefixes) (get_or prefixes i 0) c.leaf_at.result leaf
    (λ prefix. IsIn-take prefix prefixes i (get_or prefixes i 0) c.loop-prefix-test.true (any_default prefixes i c.loop-prefix-test.true))
    (c.loop-prefix.invariant leaf) (c.leaf_at.ensures leaf) (c.in_ok-add_leaf.ensures leaf)

pub returns : goal.returns
returns g c leaf =
    subst (λ (all : List ℕ). IsIn leaf c.loop-prefix.list.items ↔ IsLeafAmong (g.M.PhysicalMemory.contents c.args.memory.now) c.args.settings.now c.args.root all leaf)
    (take_all c.loop-prefix.prefix-index c.args.prefixes.now c.loop-prefix-test.false) (c.loop-prefix.invariant leaf)
