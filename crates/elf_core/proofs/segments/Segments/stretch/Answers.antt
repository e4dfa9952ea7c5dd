use Rattle.elf_core.proofs.segments.Segments.stretch.Goals as goal

pub stretch_by_changes-requires-clause-changes : goal.stretch_by_changes-requires-clause-changes
stretch_by_changes-requires-clause-changes c = rw (c.deref.ensures.value, c.deref-in-Some.ensures.value) (c.self.invariant.1 _ c.in-Some.is)
