use Rattle.std.proofs.Common.{refl, sym, ◌∙◌}
use Rattle.time_sets.proofs.UnionSteps.{joined-one, joined-other, first-one, first-other, joined-whole, some-of_test}
use Rattle.time_sets.proofs.union.union_of.Goals as goal
use Rattle.time_sets.proofs.union.union_of.Goals.{then-one-other, else-one-other}

pub loop-i-init : goal.loop-i-init
loop-i-init c =
    let one = some-of_test c.args.one.now (sym c.is_empty.ensures ∙ c.if-is_empty.false) in
    let other = some-of_test c.args.other.now (sym c.is_empty-2.ensures ∙ c.if-is_empty-2.false) in
    rw c.new-all.ensures.items (elim c.if-one-other.branch [
      | then-one-other w ↦ rw w.growing-is (first-one _ _ (0, 0) c.requires.one c.requires.other one other w.if-one-other.true)
      | else-one-other w ↦ rw w.growing-is (first-other _ _ (0, 0) c.requires.one c.requires.other one other w.if-one-other.false)
    ])

pub loop-i-preserved-then-is_of_one : goal.loop-i-preserved-then-is_of_one
loop-i-preserved-then-is_of_one c = joined-one _ _ _ _ _ _ _ _ (0, 0) c.loop-i.invariant (c.if-is_of_one.ensures.one refl) c.in_ok-growing.ensures

pub loop-i-preserved : goal.loop-i-preserved
loop-i-preserved c = joined-other _ _ _ _ _ _ _ _ (0, 0) c.loop-i.invariant (c.if-is_of_one.ensures.other refl) c.in_ok-growing-2.ensures

pub returns-clause-members : goal.returns-clause-members
returns-clause-members c = rw c.in_ok-push.ensures.ok (joined-whole _ _ _ _ _ _ c.loop-i.invariant c.if-i-one.false c.if-j-other.false).0

pub returns-clause-apart : goal.returns-clause-apart
returns-clause-apart c = rw c.in_ok-push.ensures.ok (joined-whole _ _ _ _ _ _ c.loop-i.invariant c.if-i-one.false c.if-j-other.false).1
