use Rattle.history_laws.proofs.TimeLaws.{horizon-at}
use Rattle.history_laws.proofs.times.the_horizon_stays.Goals as goal

pub returns : goal.returns
returns c = horizon-at
