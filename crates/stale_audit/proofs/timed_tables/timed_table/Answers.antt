use Rattle.std.proofs.Common.{◌≡◌, ◌*◌, ◌/◌, false, sym, ◌∙◌, subst, rules}
use Rattle.version_store.specs.Changes.{changes_of, is_changed_after}
use Rattle.stale_audit.specs.Facts.{Facts}
use Rattle.stale_audit.proofs.SteadyTableLaws.{steady-slot}
use Rattle.stale_audit.proofs.timed_tables.timed_table.Goals as goal

pub returns-clause-timed : goal.returns-clause-timed
returns-clause-timed g c = record {
  frame = c.requires;
  clear = search rules;
  set = search rules;
  len = search rules;
  unchanged = λ i below unmarked.
      let none : is_changed_after (changes_of c.args.point.now.kept (c.args.frame / 4096)) (8 * i) c.args.point.now.host.horizon ≡ false =
      subst (λ (f : Facts). is_changed_after (changes_of f.kept (c.args.frame / 4096)) (8 * i) f.host.horizon ≡ false) c.point.view_is
      (rw c.horizon.ensures at (sym (c.changed_after.ensures.value i below) ∙ unmarked)) in
      steady-slot c.args.point.now c.args.frame i c.requires.aligned below none;
}
