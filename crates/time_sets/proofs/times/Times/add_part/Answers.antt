use Rattle.std.proofs.Common.{List, ℕ, subst}
use Rattle.time_sets.proofs.PartSteps.{IsPartAdded, part-none, part-more, part-whole}
use Rattle.time_sets.proofs.times.Times.add_part.Goals as goal

pub loop-number-init : goal.loop-number-init
loop-number-init c =
    let point = c.count_before-number.ensures.point in
    subst (λ (list : List (ℕ × ℕ)). IsPartAdded c.args.self.now list c.args.self.now (c.args.first, c.args.last) c.count_before-number.result) c.intervals-intervals.ensures.same
    (part-none c.args.self.now c.intervals-intervals.result.now (c.args.first, c.args.last) c.count_before-number.result c.intervals-intervals.ensures.apart c.count_before-number.ensures.within point.0 point.1)

pub returns-then-other_first-last : goal.returns-then-other_first-last
returns-then-other_first-last c =
    part-whole c.args.self.now c.args.other.now c.loop-number.self (c.args.first, c.args.last) c.loop-number.number (0, 0) c.loop-number.invariant
    (rw (← c.intervals-intervals.ensures.same) c.loop-number-test.true) (rw (← c.intervals-intervals.ensures.same) c.if-other_first-last.true)

pub loop-number-preserved : goal.loop-number-preserved
loop-number-preserved c =
    part-more c.args.self.now c.args.other.now c.loop-number.self (c.args.first, c.args.last) c.loop-number.number (0, 0) c.loop-number.invariant
    (rw (← c.intervals-intervals.ensures.same) c.loop-number-test.true) c.add.new.self
    (λ t. rw (← c.intervals-intervals.ensures.same, ← c.max.ensures, ← c.min.ensures) (c.in_ok-add.ensures.members t))
