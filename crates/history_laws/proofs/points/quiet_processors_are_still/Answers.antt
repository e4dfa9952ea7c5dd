use Rattle.history_laws.proofs.QuietLaws.{quiet_is_still}
use Rattle.history_laws.proofs.points.quiet_processors_are_still.Goals as goal

pub returns : goal.returns
returns c history p quiet = quiet_is_still history p quiet
