use Rattle.history_laws.proofs.HorizonLaws.{horizon-spared}
use Rattle.history_laws.proofs.translations.nothing_is_older_than_the_horizon.Goals as goal

pub returns : goal.returns
returns c history p pcid level x held since = horizon-spared since.spared
