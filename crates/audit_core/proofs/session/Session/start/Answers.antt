-- A core that is read is the beginning.
use Rattle.std.proofs.Common.{◌∙◌, [], ap, subst, sym}
use Rattle.std.specs.Prelude.{All}
use Rattle.std.proofs.lemmas.List.Elements.{All-nil}
use Rattle.history_model.specs.History.{insert_processors}
use Rattle.phys_view.specs.Seen.{memory_of}
use Rattle.space_map.specs.TrueSpaces.{IsTrueOf}
use Rattle.audit_core.proofs.Accepting.{stands_first}
use Rattle.audit_core.proofs.AuditableHosts.{new_auditable}
use Rattle.audit_core.proofs.EventLaws.{core-stands}
use Rattle.audit_core.proofs.StartLaws.{new_hosts_before}
use Rattle.audit_core.proofs.session.Session.start.Goals as goal

pub invariant_of-result : goal.invariant_of-result
invariant_of-result g c = (
  new_hosts_before _ _ c.in_ok-hosts.ensures.new,
  new_auditable _ _ c.in_ok-hosts.ensures.new,
  λ is. subst (All (IsTrueOf (memory_of c.new.result.seen))) (sym c.new-2.ensures)
      (All-nil (IsTrueOf (memory_of c.new.result.seen))),
)

pub returns : goal.returns
returns g c = stands_first c.args.core _ c.requires (core-stands c.args.core c.new.result c.in_ok-hosts.hosts c.new-2.result
    c.new.ensures.seen c.new.ensures.memory c.new.ensures.kept
    (c.in_ok-hosts.ensures.processors ∙ ap (insert_processors []) c.as_slice.ensures)
    c.in_ok-hosts.ensures.new c.in_ok-hosts.ensures.distinct c.new-2.ensures)
