use Rattle.history_laws.proofs.InvalidationLaws.{lost_not_stale}
use Rattle.history_laws.proofs.points.losing_everything_leaves_nothing_stale.Goals as goal

pub returns : goal.returns
returns c before happened finding known lost is_known current stale = lost_not_stale before happened finding known lost is_known current stale
