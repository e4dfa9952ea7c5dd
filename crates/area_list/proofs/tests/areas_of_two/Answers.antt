use Rattle.std.proofs.Common.{rules, List, subst, sym, ◌<◌}
use Rattle.std.specs.Prelude.{All}
use Rattle.paging_model.specs.Listings.{AreStretches}
use Rattle.paging_model.specs.Registers.{la57}
use Rattle.paging_model.specs.declared.spaces.Region.{Region}
use Rattle.region_map.specs.Coalesced.{stretches}
use Rattle.area_list.proofs.TwoRegions.{two-canonical, two-keys}
use Rattle.area_list.proofs.tests.areas_of_two.Goals as goal

pub areas_of-requires-clause-canonical : goal.areas_of-requires-clause-canonical
areas_of-requires-clause-canonical g c =
    subst (λ (it : List Region). AreStretches (la57 c.args.regs.now) (stretches it)) (sym c.list.ensures.value)
    (two-canonical c.args.one c.args.other c.new-regions.result c.fill.new.self c.fill-2.new.self c.new-regions.ensures c.in_ok-fill.ensures.ok c.in_ok-fill-2.ensures.ok
    (la57 c.args.regs.now) c.list.ensures.coalesced (c.is_fit.ensures.canonical (search rules)) (c.is_fit-2.ensures.canonical (search rules)))

pub areas_of-requires-clause-keys : goal.areas_of-requires-clause-keys
areas_of-requires-clause-keys g c =
    subst (λ (it : List Region). All (λ region. region.key < 16) it) (sym c.list.ensures.value)
    (two-keys c.args.one c.args.other c.new-regions.result c.fill.new.self c.fill-2.new.self c.new-regions.ensures c.in_ok-fill.ensures.ok c.in_ok-fill-2.ensures.ok
    (la57 c.args.regs.now) c.list.ensures.coalesced (c.is_fit.ensures.canonical (search rules)) (c.is_fit-2.ensures.canonical (search rules))
    (c.is_fit.ensures.key (search rules)) (c.is_fit-2.ensures.key (search rules)))
