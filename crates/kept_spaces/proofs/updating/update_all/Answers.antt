use Rattle.std.proofs.Common.{arith, refl}
use Rattle.kept_spaces.proofs.Updates.{begins, goes, goes-on, next-of, next-was, read-next, stops}
use Rattle.kept_spaces.proofs.updating.update_all.Goals as goal

pub loop-left-init : goal.loop-left-init
loop-left-init g c =
    begins _ _ _ _ _ _ _ (omega (arith, c.args.spaces.now.ok.0, c.len-left.ensures))

pub update_one-requires-clause-was_true : goal.update_one-requires-clause-was_true
update_one-requires-clause-was_true g c =
    let next = next-of _ _ _ _ _ _ _ _ _ c.loop-left.invariant c.loop-left-test.true in
    next-was _ _ _ _ _ _ _ _ _ _ next (read-next _ _ _ _ _ _ _ _ _ _ next c.index_mut.ensures.value) c.requires.were_true

pub loop-left-preserved-in-Ok : goal.loop-left-preserved-in-Ok
loop-left-preserved-in-Ok g c =
    let next = next-of _ _ _ _ _ _ _ _ _ c.loop-left.invariant c.loop-left-test.true in
    goes-on _ _ _ _ _ _ _ _ _ _ c.index_mut.result.now c.update_one.new.space _ next
    (read-next _ _ _ _ _ _ _ _ _ _ next c.index_mut.ensures.value) c.in-Ok.ensures.ok c.update_one.ensures.cost refl

pub loop-left-preserved : goal.loop-left-preserved
loop-left-preserved g c =
    let next = next-of _ _ _ _ _ _ _ _ _ c.loop-left.invariant c.loop-left-test.true in
    goes _ _ _ _ _ _ _ _ _ _ c.index_mut.result.now c.update_one.new.space _ next
    (read-next _ _ _ _ _ _ _ _ _ _ next c.index_mut.ensures.value) (c.in-Err-TooLarge.ensures.too_large c.in-Err-TooLarge.field-0-is)
    c.update_one.ensures.cost c.remove.ensures.items

pub returns-in-Err-Memory-clause-cost : goal.returns-in-Err-Memory-clause-cost
returns-in-Err-Memory-clause-cost g c =
    let next = next-of _ _ _ _ _ _ _ _ _ c.loop-left.invariant c.loop-left-test.true in
    stops _ _ _ _ _ _ _ _ _ _ c.index_mut.result.now next
    (read-next _ _ _ _ _ _ _ _ _ _ next c.index_mut.ensures.value) c.update_one.ensures.cost
