use Rattle.std.proofs.Common.{◌-◌, ap}
use Rattle.time_sets.proofs.LastIntervals.{set-last}
use Rattle.time_sets.proofs.intervals.lengthen_last.Goals as goal

pub returns : goal.returns
returns c =
    set-last c.args.intervals.now.items c.as_mut_slice-intervals.result.now c.args.last (c.len-end.result - 1) c.max.result (0, 0) c.requires
    c.as_mut_slice-intervals.ensures.value (ap (λ n. n - 1) c.len-end.ensures.value) c.max.ensures
