use Rattle.std.proofs.Common.{map, take}
use Rattle.audit_points.specs.Audits.{AddFindings, pair_of, pcids_timed}
use Rattle.audit_points.proofs.host_audit.HostAudit.add_visited.Given as goal

-- what is found under the PCIDs so far is added
abbrev pub invariant-loop-one : goal.invariant-loop-one
invariant-loop-one g l = record {
  added : AddFindings l.self (map (pair_of l.self.host) (pcids_timed (take l.one-index l.times))) l.fn.findings.items l.findings.items;
}
