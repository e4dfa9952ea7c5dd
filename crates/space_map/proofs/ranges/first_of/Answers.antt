use Rattle.std.proofs.Common.{◌<◌, arith}
use Rattle.paging_model.specs.LinearAddress.{span}
use Rattle.paging_laws.proofs.SlotRanges.{slot_whole}
use Rattle.space_map.proofs.ranges.first_of.Goals as goal

pub returns-clause-whole : goal.returns-clause-whole
returns-clause-whole c =
    let is = c.span.ensures.value in
    let some : 0 < span c.args.level = omega arith in
    rw is (slot_whole (span c.args.level) c.args.prefix c.args.i some c.requires.begins)
