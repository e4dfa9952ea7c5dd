use Rattle.std.proofs.Common.{rules}
use Rattle.region_map.proofs.Replaced.{places-around}
use Rattle.region_map.proofs.putting.around.Goals as goal

pub returns : goal.returns
returns c =
    places-around c.args.items.now c.args.first c.args.last c.count_before.result c.count_before-2.result c.requires.coalesced c.requires.pages.order
    c.count_before.ensures.within c.count_before-2.ensures.within c.count_before.ensures.point c.count_before-2.ensures.point
    _ _ (search rules) (search rules)
