use Rattle.std.proofs.Common.{length}
use Rattle.history_reference.proofs.findings.+findings_of.Given as goal

abbrev pub decreases-findings_of : goal.decreases-findings_of
decreases-findings_of l = length l.pairs.now
