use Rattle.std.proofs.Common.{◌-◌}
use Rattle.paging_reference.proofs.table_uses.+reached_table.Given as goal

abbrev pub decreases-reached_table : goal.decreases-reached_table
decreases-reached_table g l = 5 - l.level
