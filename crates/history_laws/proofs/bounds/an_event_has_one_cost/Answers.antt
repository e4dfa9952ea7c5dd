use Rattle.history_laws.proofs.CostLaws.{cost_is_one}
use Rattle.history_laws.proofs.bounds.an_event_has_one_cost.Goals as goal

pub returns : goal.returns
returns c history happened one other is_one is_other = cost_is_one history happened one other is_one is_other
