use Rattle.cache_rules.proofs.StartLaws.{others-stand}
use Rattle.cache_rules.proofs.laws.others_leave_it.Goals as goal

pub returns : goal.returns
returns c host history happened stands other is_known = others-stand host history happened stands other is_known
