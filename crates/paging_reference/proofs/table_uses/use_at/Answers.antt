use Rattle.std.proofs.Common.{rules}
use Rattle.paging_model.specs.TableUses.{Serves}
use Rattle.paging_reference.proofs.ReachedTables.{use-reached}
use Rattle.paging_reference.proofs.table_uses.use_at.Goals as goal

pub returns : goal.returns
returns g c =
    let served : Serves c.args.settings.now c.args.level c.args.prefix = c.serves.ensures.0 (search (rules, c.if-not-serves.false)) in
    use-reached _ _ _ _ _ c.reached_table.result c.reached_table.ensures.value served
