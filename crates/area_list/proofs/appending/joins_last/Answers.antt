use Rattle.std.proofs.Common.{rules, length, ◌<◌, subst, sym}
use Rattle.paging_model.specs.Listings.{stretch_of_area}
use Rattle.paging_model.specs.declared.spaces.Area.{Area}
use Rattle.region_map.specs.Coalesced.{IsPageRange}
use Rattle.area_list.proofs.LastAreas.{last-before, last-range}
use Rattle.area_list.proofs.appending.joins_last.Goals as goal

pub makes_one-requires-clause-range : goal.makes_one-requires-clause-range
makes_one-requires-clause-range c =
    let some : 0 < length c.args.areas.now = search rules in
    subst (λ (it : Area). IsPageRange (stretch_of_area it)) (sym c.index-areas-areas.is)
    (last-range c.args.areas.now c.index-areas-areas.result some c.requires.coalesced)

pub makes_one-requires-clause-order : goal.makes_one-requires-clause-order
makes_one-requires-clause-order c =
    let some : 0 < length c.args.areas.now = search rules in
    subst (λ (it : Area). it.last < c.args.area.now.first) (sym c.index-areas-areas.is)
    (last-before c.args.areas.now c.index-areas-areas.result some c.args.area.now.first c.requires.coalesced c.requires.after)
