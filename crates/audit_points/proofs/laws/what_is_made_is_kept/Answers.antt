use Rattle.audit_points.proofs.KeptLaws.{made-same}
use Rattle.audit_points.proofs.laws.what_is_made_is_kept.Goals as goal

pub returns : goal.returns
returns c facts history level table x t bits stand aligned = made-same facts history level table x t bits stand aligned
