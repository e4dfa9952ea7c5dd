use Rattle.std.proofs.Common.{take}
use Rattle.space_map.specs.PatchWalks.{AreLeft}
use Rattle.space_map.proofs.removal.remove_beneath.Given as goal

abbrev pub invariant-loop-patch : goal.invariant-loop-patch
invariant-loop-patch l = AreLeft (take l.patch-index l.patches) l.fn.index l.index
