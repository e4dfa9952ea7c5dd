use Rattle.history_model.specs.StaleTranslations.{scope}
use Rattle.history_laws.proofs.StillLaws.{still_silent}
use Rattle.history_laws.proofs.points.still_points_say_yes.Goals as goal

pub returns : goal.returns
returns c history all still = still_silent history (scope history all) still
