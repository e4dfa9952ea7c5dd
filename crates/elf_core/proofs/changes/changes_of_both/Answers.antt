use Rattle.std.proofs.Common.{◌+◌, sym, ◌∙◌}
use Rattle.elf_core.proofs.ChangeLists.{same_owner, other_owner}
use Rattle.elf_core.proofs.Merging.{step_to_next, merged-kept, merged-changed}
use Rattle.elf_core.proofs.changes.changes_of_both.Goals as goal

pub changes-preserved-then-eq : goal.changes-preserved-then-eq
changes-preserved-then-eq c =
    let step = step_to_next _ _ _ _ _ _ _ _ _ c.changes.invariant.1 (sym c.in-Some.ensures) c.after-first.ensures.rest c.after-second.ensures.rest in
    let same = same_owner _ _ c.if-eq.ensures in
    (c.in-Some.from + 1, merged-kept _ _ _ _ _ _ _ _ _ c.changes.invariant.1 step (sym c.or-owner.ensures ∙ same ∙ c.or-before.ensures))

pub changes-preserved : goal.changes-preserved
changes-preserved c =
    let step = step_to_next _ _ _ _ _ _ _ _ _ c.changes.invariant.1 (sym c.in-Some.ensures) c.after-first.ensures.rest c.after-second.ensures.rest in
    (c.in-Some.from + 1, rw (c.in_ok-push.ensures.items, c.or-owner.ensures) (merged-changed _ _ _ _ _ _ _ _ _ c.changes.invariant.1 step (λ same. other_owner _ _ c.if-eq.ensures (c.or-owner.ensures ∙ same ∙ sym c.or-before.ensures))))
