use Rattle.std.proofs.Common.{◌<◌, ◌⊎◌, ◌↔◌, [], ◌∷◌}
use Rattle.paging_model.specs.Counting.{IsIn}
use Rattle.paging_model.specs.declared.spaces.TableUse.{TableUse}
use Rattle.paging_reference.specs.TableLists.{IsUseAmong}
use Rattle.paging_reference.proofs.table_uses.add_uses.Given as goal

-- the uses of the levels so far were added
abbrev pub invariant-loop-level : goal.invariant-loop-level
invariant-loop-level g l =
    (table : TableUse) → IsIn table l.list.items
    ↔ (IsIn table l.fn.list.items
    ⊎ ((table.level < l.level) × IsUseAmong (g.M.PhysicalMemory.contents l.memory) l.settings l.root (l.prefix ∷ []) table))
