use Rattle.std.proofs.Common.{◌+◌, ◌-◌, ◌*◌, arith}
use Rattle.std.proofs.lemmas.Nat.{one_shl}
use Rattle.std.proofs.Math.Pow.{pow_mono}
use Rattle.paging_laws.proofs.SlotRanges.{span_least}
use Rattle.space_map.proofs.Spans.{span_whole}
use Rattle.space_map.proofs.ranges.span.Goals as goal

pub returns : goal.returns
returns c =
    let is = one_shl (12 + 9 * (c.args.level - 1)) 64 (omega arith) in
    record {
      value = is;
      least = rw is (span_least c.args.level);
      whole = rw is (span_whole c.args.level);
      most = rw is (pow_mono {i = 12 + 9 * (c.args.level - 1)} {j = 48} (omega arith));
    }
