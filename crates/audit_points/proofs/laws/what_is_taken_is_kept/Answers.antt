use Rattle.audit_points.proofs.KeptLaws.{taken-same}
use Rattle.audit_points.proofs.laws.what_is_taken_is_kept.Goals as goal

pub returns : goal.returns
returns c facts history level x t held stand = taken-same facts history level x t held stand
