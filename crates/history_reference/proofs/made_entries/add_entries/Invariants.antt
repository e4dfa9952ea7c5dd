use Rattle.std.proofs.Common.{◌⊎◌, ◌↔◌, take}
use Rattle.paging_model.specs.Counting.{IsIn}
use Rattle.history_reference.specs.CacheEntries.{HeldEntry}
use Rattle.history_reference.proofs.made_entries.add_entries.Given as goal

-- the entries so far were added
abbrev pub invariant-loop-entry : goal.invariant-loop-entry
invariant-loop-entry l =
    (other : HeldEntry) → IsIn other l.list.items ↔ (IsIn other l.fn.list.items ⊎ IsIn other (take l.entry-index l.entries))
