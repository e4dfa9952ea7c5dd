use Rattle.std.proofs.Common.{◌-◌, ◌≤◌, None}
use Rattle.audit_laws.specs.Firsts.{IsFirst}
use Rattle.audit_laws.specs.Leads.{IsTimeOf}
use Rattle.paging_model.specs.Walking.{top_level}
use Rattle.stale_audit.specs.SlotEntries.{is_in_use}
use Rattle.stale_audit.specs.SteadyTables.{AreKnownSteady}
use Rattle.stale_audit.specs.Tops.{IsFoundBefore, top_first}
use Rattle.stale_audit.proofs.tops.audit_top.Given as goal

-- nothing is found by the slots before i
abbrev pub invariant-loop-i : goal.invariant-loop-i
invariant-loop-i g l = record {
  within : l.i ≤ 512;
  none : IsFirst (IsFoundBefore l.point (IsTimeOf (is_in_use l.table)) (top_level l.point.settings) l.root (top_first (top_level l.point.settings) l.i)) None;
  known : AreKnownSteady l.point l.known;
}

abbrev pub decreases-loop-i : goal.decreases-loop-i
decreases-loop-i g l = 512 - l.i
