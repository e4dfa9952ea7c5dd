use Rattle.std.proofs.Common.{◌&&◌, inl, inr, get_or}
use Rattle.std.specs.Prelude.{◌==◌}
use Rattle.std.specs.BTreeMap.{get}
use Rattle.std.specs.Ordering.{nat_cmp}
use Rattle.stay_times.specs.Periods.{has_if, under_root}
use Rattle.stay_times.proofs.StayLaws.{all-times, during-next, no_stay}
use Rattle.stay_times.proofs.RootLaws.{wanted-under_root}
use Rattle.cache_rules.specs.declared.stays.Stay.{Stay}
use Rattle.stay_times.proofs.roots.roots_of.Goals as goal

pub loop-i-preserved : goal.loop-i-preserved
loop-i-preserved c = record {
  so_far = λ root t.
      let past = c.args.past.now in
      let one : Stay = get_or past c.loop-i.i no_stay in
      let wanted = under_root c.args.pcid root in
      let old = has_if (get nat_cmp c.loop-i.roots root) t in
      let new = has_if (get nat_cmp c.add_if.new.roots root) t in
      let period = c.period_of-period.result in
      during-next wanted c.args.horizon c.args.now past c.loop-i.i t old new ((one.pcid == c.args.pcid) && (root == one.root)) period.0 period.1 c.loop-i-test.true
      (wanted-under_root c.args.pcid root one) (c.period_of-period.ensures.first no_stay) c.period_of-period.ensures.last (c.in_ok-add_if.ensures.times root t) (c.loop-i.invariant.so_far root t);
  some = λ root times is. elim (c.in_ok-add_if.ensures.some root times is) [ inl before ↦ c.loop-i.invariant.some root times before | inr some ↦ some ];
}

pub returns-clause-times : goal.returns-clause-times
returns-clause-times c root t =
    all-times (under_root c.args.pcid root) c.args.horizon c.args.now c.args.past.now c.loop-i.i t (has_if (get nat_cmp c.loop-i.roots root) t) c.loop-i-test.false c.requires (c.loop-i.invariant.so_far root t)
