use Rattle.std.proofs.Common.{◌-◌, length}
use Rattle.edit_log.specs.Scanning.{Skips}
use Rattle.edit_log.proofs.lines.next_line_of.Given as goal

abbrev pub invariant-lines : goal.invariant-lines
invariant-lines l = Skips l.finished l.bytes l.before l.count

abbrev pub decreases-lines : goal.decreases-lines
decreases-lines l = length l.bytes - l.before
