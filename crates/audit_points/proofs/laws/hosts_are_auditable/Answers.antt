use Rattle.audit_points.proofs.AuditableLaws.{auditable-is}
use Rattle.audit_points.proofs.laws.hosts_are_auditable.Goals as goal

pub returns : goal.returns
returns c host history is = auditable-is host history is
