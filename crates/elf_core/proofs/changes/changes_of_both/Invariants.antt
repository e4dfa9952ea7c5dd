use Rattle.std.proofs.Common.{ℕ, ◌+◌, length}
use Rattle.elf_core.proofs.Merging.{IsMerged}
use Rattle.elf_core.proofs.changes.changes_of_both.Given as goal

abbrev pub invariant-changes : goal.invariant-changes
invariant-changes l = (low : ℕ) × IsMerged l.fn.first l.fn.second l.changes.items l.first l.second low

abbrev pub decreases-changes : goal.decreases-changes
decreases-changes l = length l.first.changes.now + length l.second.changes.now
