use Rattle.history_model.specs.StaleTranslations.{scope}
use Rattle.history_laws.proofs.QuietLaws.{quiet_is_still}
use Rattle.history_laws.proofs.StillLaws.{still_silent}
use Rattle.history_laws.proofs.points.quiet_points_say_yes.Goals as goal

pub returns : goal.returns
returns c history all quiet = still_silent history (scope history all) (λ cpu pcid is_in. quiet_is_still history cpu quiet)
