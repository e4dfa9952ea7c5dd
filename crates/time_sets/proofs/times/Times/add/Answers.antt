use Rattle.std.proofs.Common.{refl, subst, List, ℕ}
use Rattle.time_sets.proofs.IntervalLists.{has-last}
use Rattle.time_sets.proofs.LastIntervals.{lengthen-apart, lengthened-has, not-both, pushed-apart}
use Rattle.time_sets.specs.Ends.{BeginsAtLast, IsAfterLast}
use Rattle.time_sets.proofs.times.Times.add.Goals as goal

pub returns-then-is_after_all-clause-members : goal.returns-then-is_after_all-clause-members
returns-then-is_after_all-clause-members c t = rw (c.in_ok-push.ensures.ok, ← c.self.view_is) (has-last c.self.inside.intervals.items (c.args.first, c.args.last) t)

pub invariant_of-self-then-is_after_all : goal.invariant_of-self-then-is_after_all
invariant_of-self-then-is_after_all c =
    let after = subst (λ (list : List (ℕ × ℕ)). IsAfterLast list c.args.first) c.as_slice.ensures (c.if-is_after_all.ensures refl) in
    rw c.in_ok-push.ensures.ok (pushed-apart c.self.inside.intervals.items c.args.first c.args.last c.self.invariant after c.requires)

pub invariant_of-self-then-is_at_last : goal.invariant_of-self-then-is_at_last
invariant_of-self-then-is_at_last c = rw c.lengthen_last.ensures (lengthen-apart 0 c.self.inside.intervals.items c.args.last c.self.invariant)

pub returns-then-is_at_last-clause-members : goal.returns-then-is_at_last-clause-members
returns-then-is_at_last-clause-members c t =
    let at = subst (λ (list : List (ℕ × ℕ)). BeginsAtLast list c.args.first) c.as_slice-2.ensures (c.if-is_at_last.ensures.0 refl) in
    rw (c.lengthen_last.ensures, ← c.self.view_is) (lengthened-has c.self.inside.intervals.items c.args.first c.args.last t at c.requires)

pub returns-in_err-push-clause-at_last : goal.returns-in_err-push-clause-at_last
returns-in_err-push-clause-at_last c at =
    let after = subst (λ (list : List (ℕ × ℕ)). IsAfterLast list c.args.first) c.as_slice.ensures (c.if-is_after_all.ensures refl) in
    absurd (not-both c.self.inside.intervals.items c.args.first (rw (← c.self.view_is) at at) after)
