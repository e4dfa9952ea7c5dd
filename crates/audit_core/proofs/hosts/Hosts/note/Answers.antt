-- One host notes the event, and the others stay.
use Rattle.std.proofs.Common.{sym}
use Rattle.std.proofs.lemmas.Result.{on_ok_weaker}
use Rattle.audit_core.proofs.HostLaws.{before_at, before_noted, distinct_noted, notes_at}
use Rattle.audit_core.proofs.hosts.Hosts.note.Goals as goal

pub note-requires : goal.note-requires
note-requires c = before_at _ _ _ _ _ (sym c.self.view_is) c.requires.before c.requires.within c.index_mut.ensures.value

pub invariant_of-self : goal.invariant_of-self
invariant_of-self c =
    distinct_noted c.note.result _ _ _ _ _ _ _ _ (sym c.self.view_is) c.requires.within c.index_mut.ensures.value
    c.self.invariant c.note.ensures.noted c.note.ensures.unchanged

pub returns-clause-noted : goal.returns-clause-noted
returns-clause-noted c =
    on_ok_weaker c.note.result
    (notes_at _ _ _ _ _ _ _ _ (sym c.self.view_is) c.requires.within c.index_mut.ensures.value) c.note.ensures.noted

pub returns-clause-before : goal.returns-clause-before
returns-clause-before c =
    on_ok_weaker c.note.result (before_noted _ _ _ _ _ (sym c.self.view_is) c.requires.before) c.note.ensures.before
