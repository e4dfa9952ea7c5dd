use Rattle.std.proofs.Common.{length}
use Rattle.space_map.proofs.CoveredUses.{first-in, highest-is, some-tables}
use Rattle.space_map.proofs.planning.highest_level.Goals as goal

pub returns-else-is_empty-clause-above : goal.returns-else-is_empty-clause-above
returns-else-is_empty-clause-above c = highest-is c.args.uses.now _ c.requires

pub returns-else-is_empty-clause-least : goal.returns-else-is_empty-clause-least
returns-else-is_empty-clause-least c level most =
    most _ (first-in c.args.uses.now _ (some-tables (length c.args.uses.now) c.if-is_empty.ensures))
