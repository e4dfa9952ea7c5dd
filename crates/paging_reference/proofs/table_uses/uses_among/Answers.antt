use Rattle.std.proofs.Common.{◌↔◌, ℕ, ◌+◌, List, get_or, take, subst}
use Rattle.std.proofs.lemmas.List.{take_all}
use Rattle.paging_model.specs.Counting.{IsIn}
use Rattle.paging_reference.specs.TableLists.{IsUseAmong}
use Rattle.paging_reference.proofs.Membership.{IsIn-take, any_default}
use Rattle.paging_reference.proofs.ReachedTables.{uses-next}
use Rattle.paging_reference.proofs.table_uses.uses_among.Goals as goal

pub loop-prefix-preserved : goal.loop-prefix-preserved
loop-prefix-preserved g c table =
    let prefixes : List ℕ = c.args.prefixes.now in
    let i = c.loop-prefix.prefix-index in
    uses-next _ _ _ (take i prefixes) (take (i + 1) prefixes) (get_or prefixes i 0) table
    (λ prefix. IsIn-take prefix prefixes i (get_or prefixes i 0) c.loop-prefix-test.true (any_default prefixes i c.loop-prefix-test.true))
    (c.loop-prefix.invariant table) (c.in_ok-add_uses.ensures table)

pub returns : goal.returns
returns g c table =
    subst (λ (all : List ℕ). IsIn table c.loop-prefix.list.items ↔ IsUseAmong (g.M.PhysicalMemory.contents c.args.memory.now) c.args.settings.now c.args.root all table)
    (take_all c.loop-prefix.prefix-index c.args.prefixes.now c.loop-prefix-test.false) (c.loop-prefix.invariant table)
