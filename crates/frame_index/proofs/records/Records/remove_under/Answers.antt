use Rattle.frame_index.proofs.Gone.{gone_below_more}
use Rattle.std.proofs.Common.{arith}
use Rattle.frame_index.proofs.records.Records.remove_under.Goals as goal

pub loop-lower-preserved : goal.loop-lower-preserved
loop-lower-preserved c = record {
  filed = c.remove_level.ensures.filed;
  flags = c.remove_level.ensures.flags;
  gone = gone_below_more _ _ _ _ _ _ _ c.loop-lower.invariant.gone (omega arith) c.remove_level.ensures.removed;
}
