use Rattle.std.proofs.Common.{arith}
use Rattle.space_map.proofs.PatchPasses.{done-at, done-in}
use Rattle.space_map.proofs.Recounts.{tables-both, change-at, numbered-more, framed-one, framed-same}
use Rattle.space_map.proofs.numbers.recount.Goals as goal

pub loop-i-preserved : goal.loop-i-preserved
loop-i-preserved c = record {
  tables = tables-both c.args.index.now c.loop-i.index c.recount_use.new.index c.loop-i.invariant.tables c.recount_use.ensures.tables;
  most = omega (arith, c.loop-i.invariant.most, c.recount_use.ensures.most, c.requires.small c.loop-i.i);
  numbered = λ was is own framed changes start.
      numbered-more was is c.args.patches.now c.args.before.now c.args.after.now c.loop-i.i _ 0 0 c.loop-i-test.true c.requires.before c.requires.after
      c.loop-i.index c.recount_use.new.index own (c.loop-i.invariant.numbered was is own framed changes start)
      (c.recount_use.ensures.changed was is
      (framed-one c.args.patches.now _ c.loop-i.index (done-in c.args.patches.now c.loop-i.i _ (done-at c.args.patches.now c.loop-i.i _ c.loop-i-test.true))
      (framed-same c.args.patches.now c.args.index.now c.loop-i.index c.loop-i.invariant.tables framed))
      (change-at was is c.args.patches.now c.args.before.now c.args.after.now c.loop-i.i _ _ _ c.loop-i-test.true c.requires.before c.requires.after changes));
}
