use Rattle.std.proofs.Common.{sym, ◌∙◌, ap}
use Rattle.elf_core.specs.Notes.{note_before, all_notes}
use Rattle.elf_core.proofs.NoteLists.{all_notes-short, all_notes-long}
use Rattle.elf_core.proofs.notes.Notes.next.Goals as goal

pub returns-then-self-lt-FIELDS_SIZE-clause-end : goal.returns-then-self-lt-FIELDS_SIZE-clause-end
returns-then-self-lt-FIELDS_SIZE-clause-end c = sym c.self.view_is ∙ all_notes-short c.self.inside.bytes.now c.if-self-lt-FIELDS_SIZE.true

pub returns-then-self-lt-FIELDS_SIZE-clause-over : goal.returns-then-self-lt-FIELDS_SIZE-clause-over
returns-then-self-lt-FIELDS_SIZE-clause-over c = returns-then-self-lt-FIELDS_SIZE-clause-end c

pub returns-in_default-clause-past : goal.returns-in_default-clause-past
returns-in_default-clause-past c = sym c.self.view_is ∙ all_notes-long c.self.inside.bytes.now c.if-self-lt-FIELDS_SIZE.false ∙ ap (note_before all_notes) (sym c.in_default.ensures)

pub returns-clause-note : goal.returns-clause-note
returns-clause-note c = sym c.self.view_is ∙ all_notes-long c.self.inside.bytes.now c.if-self-lt-FIELDS_SIZE.false ∙ ap (note_before all_notes) (sym c.in-Some.ensures)
