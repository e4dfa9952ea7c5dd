use Rattle.std.proofs.Common.{◌≡◌, ◌+◌, ◌-◌, ◌*◌, ◌^◌, ◌<◌, arith, rules}
use Rattle.paging_model.specs.LinearAddress.{span}
use Rattle.stale_audit.proofs.RangeLaws.{slot-begins, slot-within}
use Rattle.stale_audit.proofs.ranges.slot_range.Goals as goal

pub overflow_add-first : goal.overflow_add-first
overflow_add-first g c =
    let within = slot-within c.args.range.level c.args.range.first c.args.i c.requires.least c.requires.slot in
    let room = c.requires.range.ends in
    let some = c.span.ensures.some in
    let step : c.span.result ≡ span (c.args.range.level - 1) = c.span.ensures.value in
    let h : c.args.range.first + c.args.i * c.span.result < 2 ^ 64 =
    rw step (let s : 0 < span (c.args.range.level - 1) = rw step at some in omega (arith, within, room, s)) in
    search (rules, h)

pub returns-clause-range : goal.returns-clause-range
returns-clause-range g c =
    let within = slot-within c.args.range.level c.args.range.first c.args.i c.requires.least c.requires.slot in
    let room = c.requires.range.ends in
    let least = c.requires.least in
    let step : c.span.result ≡ span (c.args.range.level - 1) = c.span.ensures.value in
    record {
      least = omega (arith, least);
      whole = rw step (slot-begins c.args.range.level c.args.range.first c.args.i c.requires.least c.requires.slot c.requires.range.whole);
      ends = rw step (omega (arith, within, room));
      there = c.there_below-there.ensures.there;
    }
