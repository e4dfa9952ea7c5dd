use Rattle.std.proofs.Common.{rules, List, length, subst, sym, ◌≤◌}
use Rattle.paging_model.specs.Registers.{la57}
use Rattle.paging_model.specs.declared.spaces.Area.{Area}
use Rattle.region_map.proofs.Indices.{range-at}
use Rattle.area_list.specs.AreaLists.{AreAreasOf}
use Rattle.area_list.proofs.Granting.{areas-of_all, areas-unmapped, targets-next}
use Rattle.area_list.proofs.Listed.{areas-listed, stretch-at}
use Rattle.area_list.proofs.listing.areas_of.Goals as goal

pub add_region-requires-clause-range : goal.add_region-requires-clause-range
add_region-requires-clause-range c =
    range-at c.args.regions.now c.loop-region.region-index _ c.requires.coalesced.ranges c.loop-region-test.true

pub add_region-requires-clause-canonical : goal.add_region-requires-clause-canonical
add_region-requires-clause-canonical c =
    stretch-at (la57 c.args.regs.now) c.args.regions.now c.requires.canonical c.loop-region.region-index _ c.loop-region-test.true

pub add_region-requires-clause-after : goal.add_region-requires-clause-after
add_region-requires-clause-after c =
    areas-unmapped c.args.regs.now c.args.regions.now c.loop-region.region-index _ c.loop-region-test.true c.requires.coalesced
    c.loop-region.areas.items c.loop-region.invariant.targets

pub loop-region-preserved : goal.loop-region-preserved
loop-region-preserved c = record {
  coalesced = c.in_ok-add_region.ensures.added.coalesced;
  grants = c.add_region.ensures.grants;
  targets = targets-next c.args.regs.now c.args.regions.now c.loop-region.region-index _ c.loop-region-test.true c.requires.coalesced
      c.loop-region.areas.items c.loop-region.invariant.targets c.add_region.new.areas.items c.in_ok-add_region.ensures.added;
}

pub returns-clause-space : goal.returns-clause-space
returns-clause-space c = λ memory machine listed.
    let all : length c.args.regions.now ≤ c.loop-region.region-index = search rules in
    let are = areas-of_all c.args.regs.now c.args.regions.now c.loop-region.region-index c.loop-region.areas.items all
    c.loop-region.invariant.coalesced c.loop-region.invariant.targets in
    areas-listed memory machine c.args.regs.now c.args.regions.now c.from_vec.result listed
    (subst (λ (it : List Area). AreAreasOf c.args.regs.now c.args.regions.now it) (sym c.from_vec.ensures) are)
