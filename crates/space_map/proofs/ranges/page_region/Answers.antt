use Rattle.std.proofs.Common.{◌≡◌, ◌%◌, arith}
use Rattle.space_map.proofs.Spans.{pages_whole}
use Rattle.space_map.proofs.ranges.page_region.Goals as goal

pub returns-clause-range : goal.returns-clause-range
returns-clause-range c =
    let whole : c.args.first % 4096 ≡ 0 = pages_whole c.span.result c.args.first c.span.ensures.whole (rw c.span.ensures.value c.requires.begins) in
    record {
      begins = whole;
      ends = omega arith;
      some = omega arith;
      below = omega arith;
      framed = c.requires.aligned;
      fits = omega arith;
    }
