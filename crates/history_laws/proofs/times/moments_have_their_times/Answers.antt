use Rattle.history_laws.proofs.TimeLaws.{time-at, moment_at-now}
use Rattle.history_laws.proofs.times.moments_have_their_times.Goals as goal

pub returns-clause-at : goal.returns-clause-at
returns-clause-at c = time-at

pub returns-clause-now : goal.returns-clause-now
returns-clause-now c = moment_at-now
