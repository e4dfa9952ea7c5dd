use Rattle.std.proofs.Common.{take}
use Rattle.region_map.specs.Coalesced.{IsCopied, target_at}
use Rattle.region_map.proofs.copying.copy_range.Given as goal

abbrev pub invariant-loop-region : goal.invariant-loop-region
invariant-loop-region l =
    IsCopied l.first l.last (target_at (take l.region-index l.rest)) (target_at l.fn.regions) (target_at l.regions)
