use Rattle.std.proofs.Common.{length}
use Rattle.rights.specs.Generated.{IsCounted}
use Rattle.rights.proofs.generating.summarize_log.Given as goal

abbrev pub invariant-events : goal.invariant-events
invariant-events g l = IsCounted l.seed l.count l.session l.lines l.summary

abbrev pub decreases-events : goal.decreases-events
decreases-events g l = length l.lines.rest
