use Rattle.std.proofs.Common.{take}
use Rattle.audit_points.proofs.ScopeLaws.{AreFindingsOf}
use Rattle.audit_points.proofs.audits.audit.Given as goal

-- what the processors so far have
abbrev pub invariant-loop-host : goal.invariant-loop-host
invariant-loop-host g l = record {
  so_far : AreFindingsOf l.view l.store l.hosts l.machine l.now l.all (take l.host-index l.hosts) l.findings.items;
}
