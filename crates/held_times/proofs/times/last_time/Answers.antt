use Rattle.std.proofs.Common.{◌-◌, length, get_or, Some, subst, arith}
use Rattle.held_times.specs.HeldTimes.{IsLastTime}
use Rattle.held_times.proofs.LastLaws.{last-time}
use Rattle.held_times.proofs.times.last_time.Goals as goal

pub returns : goal.returns
returns c =
    let list = c.intervals-intervals.result.now in
    subst (λ times. IsLastTime times (Some (get_or list (length list - 1) (0, 0)).1)) c.intervals-intervals.ensures.same
    (last-time list (length list - 1) (0, 0) c.intervals-intervals.ensures.apart (let some = c.if-n-eq0.false in omega arith))
