use Rattle.history_laws.proofs.StillLaws.{still_not_stale}
use Rattle.history_laws.proofs.points.still_processors_have_nothing_stale.Goals as goal

pub returns : goal.returns
returns c history finding still stale = still_not_stale history finding still stale
