use Rattle.std.proofs.Common.{take}
use Rattle.audit_laws.specs.Firsts.{IsFirst}
use Rattle.stale_audit.specs.SlotEntries.{IsLeafOfSome}
use Rattle.stale_audit.proofs.leaves.first_of_entries.Given as goal

-- the first translation by the entries so far
abbrev pub invariant-loop-entry : goal.invariant-loop-entry
invariant-loop-entry g l = record {
  first : IsFirst (IsLeafOfSome l.point l.range.level l.range.first (take l.entry-index l.entries)) l.first;
}
