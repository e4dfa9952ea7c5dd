use Rattle.std.proofs.Common.{◌↔◌, take}
use Rattle.paging_model.specs.Counting.{IsIn}
use Rattle.paging_model.specs.TableUses.{Leaf}
use Rattle.paging_reference.specs.TableLists.{IsLeafAmong}
use Rattle.paging_reference.proofs.table_uses.leaves_among.Given as goal

-- the pages of the prefixes so far
abbrev pub invariant-loop-prefix : goal.invariant-loop-prefix
invariant-loop-prefix g l =
    (leaf : Leaf) → IsIn leaf l.list.items
    ↔ IsLeafAmong (g.M.PhysicalMemory.contents l.memory) l.settings l.root (take l.prefix-index l.prefixes) leaf
