use Rattle.std.proofs.Common.{sym, ap, length}
use Rattle.block_map.proofs.Pages.{pages-none}
use Rattle.block_map.proofs.map.BlockMap.new.Goals as goal

pub invariant_of-result : goal.invariant_of-result
invariant_of-result c = sym (ap length (pages-none _ _ c.new.ensures))

pub returns : goal.returns
returns c = pages-none _ _ c.new.ensures
