use Rattle.std.proofs.Common.{take}
use Rattle.history_model.specs.History.{History}
use Rattle.audit_laws.specs.Firsts.{IsFirst}
use Rattle.audit_points.specs.Audits.{HostFactsStandFor, IsStaleHeldForSome, pcids_timed}
use Rattle.audit_points.proofs.host_audit.HostAudit.first_stale.Given as goal

-- the first of those that are held under the PCIDs so far
abbrev pub invariant-loop-under : goal.invariant-loop-under
invariant-loop-under g l = record {
  so_far : (history : History) → HostFactsStandFor l.self history → IsFirst (IsStaleHeldForSome l.self history l.home l.pcid (pcids_timed (take l.under-index l.times))) l.first;
}
