use Rattle.std.proofs.Common.{sym, arith}
use Rattle.std.proofs.lemmas.Bool.Decides.{nat_tests}
use Rattle.time_sets.proofs.Searches.{next-decides, none-holds}
use Rattle.time_sets.proofs.intervals.is_in.Goals as goal

pub returns-then-place-intervals : goal.returns-then-place-intervals
returns-then-place-intervals c =
    let point = c.count_before-place.ensures.point in
    let there = c.if-place-intervals.true in
    sym (next-decides 0 c.args.intervals.now c.args.t c.count_before-place.result (0, 0) c.requires point.0 there (point.1 c.count_before-place.result (0, 0) (omega arith) there))

pub returns-else-place-intervals : goal.returns-else-place-intervals
returns-else-place-intervals c =
    let point = c.count_before-place.ensures.point in
    let end = c.if-place-intervals.false in
    let none = none-holds c.args.intervals.now c.args.t (λ k d low high. point.0 k d low (omega (arith, high, end))) in
    rw none (grind (arith, nat_tests, end))
