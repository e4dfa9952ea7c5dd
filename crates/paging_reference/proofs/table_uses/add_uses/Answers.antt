use Rattle.std.proofs.Common.{arith}
use Rattle.paging_reference.proofs.ReachedTables.{uses-start, uses-level, uses-end}
use Rattle.paging_reference.proofs.table_uses.add_uses.Goals as goal

pub loop-level-init : goal.loop-level-init
loop-level-init g c table = uses-start _ _ _ c.args.prefix table

pub loop-level-preserved : goal.loop-level-preserved
loop-level-preserved g c table =
    uses-level _ _ _ c.loop-level.level c.args.prefix c.use_at.result table
    (c.loop-level.invariant table) (c.use_at.ensures table) (c.in_ok-add_use.ensures table)

pub returns : goal.returns
returns g c table = uses-end _ _ _ c.loop-level.level c.args.prefix table (omega arith) (c.loop-level.invariant table)
