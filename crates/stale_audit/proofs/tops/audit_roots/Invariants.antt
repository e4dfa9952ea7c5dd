use Rattle.paging_model.specs.Walking.{top_level}
use Rattle.stale_audit.specs.SteadyTables.{AreKnownSteady}
use Rattle.stale_audit.proofs.RootLaws.{IsFoundSoFar}
use Rattle.stale_audit.proofs.tops.audit_roots.Given as goal

abbrev pub invariant-loop-root : goal.invariant-loop-root
invariant-loop-root g l = record {
  found : IsFoundSoFar l.point (top_level l.point.settings) l.roots.entries l.root-iterator l.first;
  known : AreKnownSteady l.point l.known;
}
