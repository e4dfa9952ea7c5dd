-- Notes apart from where in the file's bytes they lie.
use Rattle.elf_core.specs.Notes.{NoteParts}
use Rattle.elf_core.specs.declared.notes.Note.{Note}

abbrev pub parts : Note → NoteParts
parts note = record { kind = note.kind; name = note.name.now; description = note.description.now }
