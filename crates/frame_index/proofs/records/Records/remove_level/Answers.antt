use Rattle.std.proofs.Common.{refl}
use Rattle.frame_index.proofs.Gone.{gone_at, one_gone}
use Rattle.frame_index.proofs.FiledRecords.{none_from_free}
use Rattle.frame_index.proofs.records.Records.remove_level.Goals as goal

pub loop-slot-preserved : goal.loop-slot-preserved
loop-slot-preserved c =
    let at = gone_at _ _ _ _ c.args.first c.args.last c.args.level c.in-Some.slot c.loop-slot.invariant.filed c.in-Some.ensures.some in
    record {
      filed = c.remove.ensures.filed;
      flags = c.remove.ensures.flags;
      gone = one_gone _ _ _ _ _ _ _ _ c.loop-slot.invariant.gone at.is at.between c.remove.ensures.updates;
    }

pub returns-clause-removed : goal.returns-clause-removed
returns-clause-removed c = record {
  were = c.loop-slot.invariant.gone.were;
  none = λ one is between. none_from_free _ _ _ _ c.loop-slot.invariant.filed c.args.level one.table.prefix
      (c.in_default.ensures.none one.table.prefix between.from between.to) one is (between.level_is, refl);
  others = c.loop-slot.invariant.gone.others;
}
