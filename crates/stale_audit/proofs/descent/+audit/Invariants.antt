use Rattle.std.proofs.Common.{◌+◌, ◌-◌, ◌*◌, ◌≤◌, ◌⊎◌, None, take}
use Rattle.paging_model.specs.LinearAddress.{span}
use Rattle.audit_laws.specs.Firsts.{IsFirst}
use Rattle.audit_laws.specs.Leads.{IsTimeOf}
use Rattle.audit_laws.specs.declared.stale_pages.StalePage.{StalePage}
use Rattle.stale_audit.specs.Findings.{IsFoundIn, IsFoundUnder, IsLeafFoundIn}
use Rattle.stale_audit.specs.SlotEntries.{is_in_use}
use Rattle.stale_audit.specs.SteadyTables.{AreKnownSteady}
use Rattle.stale_audit.proofs.descent.+audit.Given as goal

abbrev pub decreases-audit_below : goal.decreases-audit_below
decreases-audit_below g l = 3 * l.range.level

abbrev pub decreases-audit_slot : goal.decreases-audit_slot
decreases-audit_slot g l = 3 * l.range.level + 1

abbrev pub decreases-audit_table : goal.decreases-audit_table
decreases-audit_table g l = 3 * (l.range.level - 1) + 2

abbrev pub decreases-audit_table-loop-i : goal.decreases-audit_table-loop-i
decreases-audit_table-loop-i g l = 512 - l.i

-- nothing is found by the slots before i
abbrev pub invariant-audit_table-loop-i : goal.invariant-audit_table-loop-i
invariant-audit_table-loop-i g l = record {
  within : l.i ≤ 512;
  none : IsFirst (IsFoundIn l.point l.range.first (l.range.first + l.i * span (l.range.level - 1)) (IsTimeOf (is_in_use l.table)) (l.range.level - 1) l.table.frame l.table.bits) None;
  known : AreKnownSteady l.point l.known;
}

-- the first finding by the slot's translations and under the tables so far
abbrev pub invariant-audit_slot-loop-lower : goal.invariant-audit_slot-loop-lower
invariant-audit_slot-loop-lower g l = record {
  first : IsFirst (λ (one : StalePage). IsLeafFoundIn l.point l.range.first (l.range.first + span l.range.level) (IsTimeOf (is_in_use l.table)) l.range.level l.table.frame l.table.bits one
      ⊎ IsFoundUnder l.point l.range.first (l.range.first + span l.range.level) (l.range.level - 1) (take l.lower-index l.lower-items) one) l.best;
  known : AreKnownSteady l.point l.known;
}
