-- Those so far hold what was read.
use Rattle.std.proofs.Common.{◌≡◌, length}
use Rattle.phys_view.specs.Seen.{memory_of}
use Rattle.audit_core.proofs.OldEntries.{AreRead}
use Rattle.audit_core.proofs.old_entries.read_entries.Given as goal

abbrev pub invariant-loop-i : goal.invariant-loop-i
invariant-loop-i g l = record {
  read : AreRead (memory_of l.view) l.first l.i l.entries;
  len : length l.entries ≡ length l.fn.entries;
}
