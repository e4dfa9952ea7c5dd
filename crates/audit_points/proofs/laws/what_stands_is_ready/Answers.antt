use Rattle.audit_points.proofs.ReadyLaws.{ready-is}
use Rattle.audit_points.proofs.laws.what_stands_is_ready.Goals as goal

pub returns : goal.returns
returns c facts history stand = ready-is facts history stand
