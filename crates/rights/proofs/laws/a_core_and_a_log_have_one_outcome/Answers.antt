use Rattle.rights.proofs.Jobs.{outcome_once}
use Rattle.rights.proofs.laws.a_core_and_a_log_have_one_outcome.Goals as goal

pub returns : goal.returns
returns c = outcome_once
