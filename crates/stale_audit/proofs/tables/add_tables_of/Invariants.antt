use Rattle.std.proofs.Common.{ℕ, ◌⊎◌, take}
use Rattle.std.specs.Prelude.{◌↔◌}
use Rattle.paging_model.specs.declared.entries.Bits.{Bits}
use Rattle.stale_audit.specs.Findings.{IsListedAt}
use Rattle.stale_audit.specs.SlotEntries.{AreTablesBelow, IsReferenceOfSome}
use Rattle.stale_audit.proofs.tables.add_tables_of.Given as goal

-- the tables that the entries so far reference are listed
abbrev pub invariant-loop-entry : goal.invariant-loop-entry
invariant-loop-entry g l = record {
  listed : (frame : ℕ) (joined : Bits) (u : ℕ) → IsListedAt l.tables.items frame joined u
      ↔ (IsListedAt l.fn.tables.items frame joined u ⊎ IsReferenceOfSome l.point l.level l.first (take l.entry-index l.entries) frame joined u);
  below : AreTablesBelow l.level l.fn.tables.items → AreTablesBelow l.level l.tables.items;
}
