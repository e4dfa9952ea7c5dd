use Rattle.std.proofs.Common.{arith, ◌-◌}
use Rattle.region_map.proofs.Indices.{range-at}
use Rattle.region_map.proofs.places.joins_previous.Goals as goal

pub makes_one-requires-clause-range : goal.makes_one-requires-clause-range
makes_one-requires-clause-range c = range-at c.args.items.now (c.args.place - 1) _ c.requires.coalesced.ranges (omega (arith, c.requires.place.within))
