use Rattle.audit_points.proofs.NotedLaws.{later-is, new-is, noted-is}
use Rattle.audit_points.proofs.laws.hosts_stay_auditable.Goals as goal

pub returns-clause-new : goal.returns-clause-new
returns-clause-new c number known machine = new-is number known machine

pub returns-clause-noted : goal.returns-clause-noted
returns-clause-noted c old new earlier now happened after is later before noted = noted-is old new earlier now happened after is later before noted

pub returns-clause-later : goal.returns-clause-later
returns-clause-later c host earlier now is later = later-is host earlier now is later
