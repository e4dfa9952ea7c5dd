use Rattle.std.proofs.Common.{◌∙◌, ◌/◌, sym, arith}
use Rattle.version_store.proofs.Packing.{change_at-put, change_at-kept, any-default}
use Rattle.version_store.proofs.frame_changes.put_change.Goals as goal

pub returns-clause-value : goal.returns-clause-value
returns-clause-value c =
    rw (c.put.ensures.value)
    (change_at-put c.args.blocks.now.items c.args.number c.index_mut-block.result.now c.to_bytes.result (omega arith) c.put.ensures.len c.to_bytes.ensures.len ∙ c.to_bytes.ensures.value)

pub returns-clause-others : goal.returns-clause-others
returns-clause-others c n other =
    rw (c.put.ensures.value)
    (change_at-kept c.args.blocks.now.items c.args.number n c.index_mut-block.result.now c.to_bytes.result (omega arith) (any-default c.args.blocks.now.items (c.args.number / 256) _ _ (omega arith) ∙ sym c.index_mut-block.ensures.value) c.put.ensures.len c.to_bytes.ensures.len other)
