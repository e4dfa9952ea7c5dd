use Rattle.history_laws.proofs.TimeLaws.{held-onward}
use Rattle.history_laws.proofs.times.what_is_spared_is_held.Goals as goal

pub returns : goal.returns
returns c history p pcid level x held t u order within spared may_hold =
    held-onward history p pcid x level held t u order within spared may_hold
