use Rattle.std.proofs.Common.{rules, length, sym, ◌∙◌, ◌≡◌, ◌≤◌, ◌<◌, get_or}
use Rattle.region_map.proofs.Indices.{region-none, region-held, region-gap}
use Rattle.region_map.proofs.places.region_of.Goals as goal

pub returns-in_err-region : goal.returns-in_err-region
returns-in_err-region c =
    let all : length c.args.items.now ≤ c.count_before.result = search rules in
    c.from_residual.ensures
    ∙ sym (region-none c.args.items.now c.requires c.args.address c.count_before.result c.count_before.ensures.within c.count_before.ensures.point all)

pub returns-then-region-address : goal.returns-then-region-address
returns-then-region-address c =
    let there : c.count_before.result < length c.args.items.now = search rules in
    let read : c.in_ok-region.region.now ≡ get_or c.args.items.now c.count_before.result c.in_ok-region.region.now = search rules in
    sym (region-held c.args.items.now c.requires c.args.address c.count_before.result c.count_before.ensures.within c.count_before.ensures.point
    c.in_ok-region.region.now there read c.if-region-address.true)

pub returns-else-region-address : goal.returns-else-region-address
returns-else-region-address c =
    let there : c.count_before.result < length c.args.items.now = search rules in
    let read : c.in_ok-region.region.now ≡ get_or c.args.items.now c.count_before.result c.in_ok-region.region.now = search rules in
    sym (region-gap c.args.items.now c.requires c.args.address c.count_before.result c.count_before.ensures.within c.count_before.ensures.point
    c.in_ok-region.region.now there read c.if-region-address.false)
