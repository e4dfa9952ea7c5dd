use Rattle.std.proofs.Common.{append_assoc, rules}
use Rattle.rights_report.proofs.refusals.header_refusal.Goals as goal

pub returns : goal.returns
returns c = rw append_assoc (search rules)
