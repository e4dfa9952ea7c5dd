use Rattle.std.proofs.Common.{inl, inr, arith, refl}
use Rattle.std.proofs.lemmas.List.{drop_all}
use Rattle.time_sets.proofs.IntervalLists.{follow-nothing, follow-apart}
use Rattle.time_sets.proofs.IntersectionSteps.{meet-step_left, meet-step_right, meet-whole}
use Rattle.time_sets.proofs.intersection.intersection_of.Goals as goal
use Rattle.time_sets.proofs.intersection.intersection_of.Goals.{then-loop-i-test+else-j-other, else-loop-i-test}

pub loop-i-init : goal.loop-i-init
loop-i-init c = rw c.new-both.ensures.items (record {
  low = 0;
  one_within = omega arith;
  other_within = omega arith;
  members = λ t. refl;
  follow = follow-nothing;
  onward = inl c.requires.one;
  one_apart = c.requires.one;
  other_apart = c.requires.other;
})

pub loop-i-preserved : goal.loop-i-preserved
loop-i-preserved c = rw (c.in_ok-push_numbers.ensures, c.max-first.ensures, c.min-last.ensures)
    (meet-step_right _ _ _ _ _ (0, 0) c.loop-i.invariant c.loop-i-test.true c.if-j-other.true c.if-one_last-other_last.false)

pub loop-i-preserved-then-one_last-other_last : goal.loop-i-preserved-then-one_last-other_last
loop-i-preserved-then-one_last-other_last c = rw (c.in_ok-push_numbers.ensures, c.max-first.ensures, c.min-last.ensures)
    (meet-step_left _ _ _ _ _ (0, 0) c.loop-i.invariant c.loop-i-test.true c.if-j-other.true c.if-one_last-other_last.true)

pub returns-clause-apart : goal.returns-clause-apart
returns-clause-apart c = follow-apart _ _ c.loop-i.invariant.follow

pub returns-clause-members : goal.returns-clause-members
returns-clause-members c =
    elim c.loop-i-test.branch [
      | then-loop-i-test+else-j-other w ↦ meet-whole _ _ _ _ _ c.loop-i.invariant (inr (drop_all _ _ w.if-j-other.false))
      | else-loop-i-test w ↦ meet-whole _ _ _ _ _ c.loop-i.invariant (inl (drop_all _ _ w.loop-i-test.false))
    ]
