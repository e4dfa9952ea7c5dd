use Rattle.region_map.proofs.AddedRegions.{place-of_unmapped}
use Rattle.region_map.proofs.adding.add.Goals as goal

pub add_at-requires-clause-place : goal.add_at-requires-clause-place
add_at-requires-clause-place c =
    place-of_unmapped c.args.items.now.items _ c.count_before-place.result c.args.region c.as_slice.ensures.value c.requires.coalesced c.requires.range c.requires.unmapped
    c.count_before-place.ensures.within c.count_before-place.ensures.point
