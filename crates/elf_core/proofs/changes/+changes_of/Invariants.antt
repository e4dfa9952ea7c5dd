use Rattle.std.proofs.Common.{length}
use Rattle.elf_core.proofs.changes.+changes_of.Given as goal

abbrev pub decreases-changes_of : goal.decreases-changes_of
decreases-changes_of l = length l.segments.now
