use Rattle.std.proofs.Common.{List, ◌∙◌, ap, arith, take}
use Rattle.std.proofs.lemmas.List.{take_all}
use Rattle.paging_model.specs.declared.spaces.Region.{Region}
use Rattle.region_map.specs.Coalesced.{target_at}
use Rattle.region_map.proofs.Copied.{copied-as, copied-next, earlier-same, part-unmapped, rest-coalesced, rest-same, some_region}
use Rattle.region_map.proofs.Indices.{range-at}
use Rattle.region_map.proofs.copying.copy_range.Goals as goal

pub returns-then-last-region : goal.returns-then-last-region
returns-then-last-region c =
    let coalesced = rest-coalesced c.args.list.now c.split_at.result.1.now c.count_before.result c.split_at.ensures.back c.requires.list in
    copied-as c.args.first c.args.last (target_at (take c.loop-region.region-index c.split_at.result.1.now)) (target_at c.args.list.now) _ _
    (λ x from to.
    earlier-same c.split_at.result.1.now c.loop-region.region-index some_region coalesced c.loop-region-test.true x (omega (arith, c.if-last-region.true, to))
    ∙ rest-same c.args.list.now c.split_at.result.1.now c.count_before.result c.split_at.ensures.back c.args.first x c.count_before.ensures.point.0 from)
    c.loop-region.invariant

pub part_in-requires-clause-range : goal.part_in-requires-clause-range
part_in-requires-clause-range c =
    let coalesced = rest-coalesced c.args.list.now c.split_at.result.1.now c.count_before.result c.split_at.ensures.back c.requires.list in
    range-at c.split_at.result.1.now c.loop-region.region-index some_region coalesced.ranges c.loop-region-test.true

pub fill-requires-clause-unmapped : goal.fill-requires-clause-unmapped
fill-requires-clause-unmapped c =
    let coalesced = rest-coalesced c.args.list.now c.split_at.result.1.now c.count_before.result c.split_at.ensures.back c.requires.list in
    part-unmapped c.split_at.result.1.now c.loop-region.region-index some_region coalesced c.loop-region-test.true c.args.first c.args.last c.part_in.result
    (target_at c.args.regions.now) (target_at c.loop-region.regions) c.part_in.ensures.part c.loop-region.invariant

pub loop-region-preserved : goal.loop-region-preserved
loop-region-preserved c =
    let coalesced = rest-coalesced c.args.list.now c.split_at.result.1.now c.count_before.result c.split_at.ensures.back c.requires.list in
    copied-next c.split_at.result.1.now c.loop-region.region-index some_region coalesced c.loop-region-test.true c.args.first c.args.last c.part_in.result
    (target_at c.args.regions.now) (target_at c.loop-region.regions) (target_at c.fill.new.self)
    c.part_in.ensures.part c.loop-region.invariant c.in_ok-fill.ensures.ok

pub returns : goal.returns
returns c =
    let all = take_all c.loop-region.region-index c.split_at.result.1.now (omega (arith, c.loop-region-test.false)) in
    copied-as c.args.first c.args.last (target_at (take c.loop-region.region-index c.split_at.result.1.now)) (target_at c.args.list.now) _ _
    (λ x from to.
    ap (λ (it : List Region). target_at it x) all
    ∙ rest-same c.args.list.now c.split_at.result.1.now c.count_before.result c.split_at.ensures.back c.args.first x c.count_before.ensures.point.0 from)
    c.loop-region.invariant
