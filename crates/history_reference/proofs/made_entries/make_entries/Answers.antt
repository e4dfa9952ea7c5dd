use Rattle.std.proofs.Common.{◌≡◌, subst, arith}
use Rattle.history_reference.specs.Moments.{history_of}
use Rattle.history_reference.proofs.HeldSteps.{AreMadeAbove, made_above-start, made_above-next, made_above-end}
use Rattle.history_reference.proofs.made_entries.make_entries.Goals as goal

pub loop-level-init : goal.loop-level-init
loop-level-init c = record {
  most = omega arith;
  made = λ cpu pcid is_known current before. made_above-start (history_of c.args.moment.now) cpu pcid c.args.address c.args.list.now.items before;
}

pub loop-level-preserved : goal.loop-level-preserved
loop-level-preserved c = record {
  most = omega (arith, c.loop-level.invariant.most);
  made = λ cpu pcid is_known current before.
      made_above-next (history_of c.args.moment.now) cpu pcid c.args.address c.args.known.now is_known current
      c.loop-level.level c.loop-level.list.items (c.loop-level.invariant.made cpu pcid is_known current before)
      c.make_level.new.list.items c.loop-level-test.true c.in_ok-make_level.ensures;
}

pub returns : goal.returns
returns c cpu pcid is_known current before =
    let none : c.loop-level.level ≡ 0 = omega arith in
    made_above-end (history_of c.args.moment.now) cpu pcid c.args.address c.loop-level.list.items
    (subst (λ n. AreMadeAbove (history_of c.args.moment.now) cpu pcid c.args.address n c.loop-level.list.items) none
    (c.loop-level.invariant.made cpu pcid is_known current before))
