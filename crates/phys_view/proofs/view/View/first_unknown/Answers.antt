use Rattle.std.proofs.Common.{sym, ◌∙◌, arith}
use Rattle.phys_view.proofs.Known.{first_unknown-run, first_unknown-stop}
use Rattle.phys_view.proofs.view.View.first_unknown.Goals as goal

pub overflow_add-next : goal.overflow_add-next
overflow_add-next g c = grind (arith, c.in-Known.ensures.below, c.min-known.ensures)

pub returns-in_default-clause-value : goal.returns-in_default-clause-value
returns-in_default-clause-value g c =
    let was = rw (sym c.self.view_is) at c.loop-left.invariant.known in
    rw (sym c.self.view_is) (sym (first_unknown-stop _ _ _ _ c.loop-left-test.true c.in_default.ensures) ∙ was)

pub loop-left-preserved : goal.loop-left-preserved
loop-left-preserved g c =
    let was = rw (sym c.self.view_is) at c.loop-left.invariant.known in
    record {
      known = rw (sym c.self.view_is) (sym (first_unknown-run _ _ _ _ _ c.min-known.ensures c.in-Known.ensures) ∙ was);
      place = grind (arith, c.min-known.ensures, c.loop-left.invariant.place);
      below = λ less. grind (arith, c.in-Known.ensures.below, c.in-Known.ensures.some, c.loop-left.invariant.place, c.loop-left.auto.left-fits);
    }
