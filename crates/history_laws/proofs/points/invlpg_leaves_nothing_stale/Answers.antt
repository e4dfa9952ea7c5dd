use Rattle.history_laws.proofs.InvalidationLaws.{invlpg_not_stale}
use Rattle.history_laws.proofs.points.invlpg_leaves_nothing_stale.Goals as goal

pub returns : goal.returns
returns c before address finding known is_known canonical page_is current stale = invlpg_not_stale before address finding known is_known canonical page_is current stale
