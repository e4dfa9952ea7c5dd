use Rattle.std.proofs.Common.{◌≡◌, length}
use Rattle.elf_core.specs.Notes.{all_notes}
use Rattle.elf_core.specs.Cores.{after_notes}
use Rattle.elf_core.proofs.parsing.add_notes.Given as goal

-- what is left of the notes, from what is known so far, is the whole
abbrev pub invariant-notes : goal.invariant-notes
invariant-notes l = after_notes l.index l.core l.notes ≡ after_notes l.index l.fn.core (all_notes l.bytes)

abbrev pub decreases-notes : goal.decreases-notes
decreases-notes l = length l.notes
