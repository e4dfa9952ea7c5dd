use Rattle.std.proofs.Common.{◌↔◌, take}
use Rattle.paging_model.specs.Counting.{IsIn}
use Rattle.paging_model.specs.declared.spaces.TableUse.{TableUse}
use Rattle.paging_reference.specs.TableLists.{IsUseAmong}
use Rattle.paging_reference.proofs.table_uses.uses_among.Given as goal

-- the uses of the prefixes so far
abbrev pub invariant-loop-prefix : goal.invariant-loop-prefix
invariant-loop-prefix g l =
    (table : TableUse) → IsIn table l.list.items
    ↔ IsUseAmong (g.M.PhysicalMemory.contents l.memory) l.settings l.root (take l.prefix-index l.prefixes) table
