use Rattle.time_sets.specs.Sets.{has_time}
use Rattle.stay_times.proofs.StayLaws.{all-times, during-next, no_stay}
use Rattle.stay_times.proofs.periods.times_of.Goals as goal

pub loop-i-preserved : goal.loop-i-preserved
loop-i-preserved c = record {
  so_far = λ t. during-next c.args.wanted.now c.args.horizon c.args.now c.args.past.now c.loop-i.i t (has_time c.loop-i.times t) (has_time c.add_if.new.times t) c.is_wanted.result c.period_of-period.result.0 c.period_of-period.result.1 c.loop-i-test.true
      c.is_wanted.ensures (c.period_of-period.ensures.first no_stay) c.period_of-period.ensures.last (c.in_ok-add_if.ensures t) (c.loop-i.invariant.so_far t);
}

pub returns : goal.returns
returns c t = all-times c.args.wanted.now c.args.horizon c.args.now c.args.past.now c.loop-i.i t (has_time c.loop-i.times t) c.loop-i-test.false c.requires (c.loop-i.invariant.so_far t)
