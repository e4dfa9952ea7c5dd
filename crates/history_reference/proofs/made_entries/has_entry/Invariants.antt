use Rattle.std.proofs.Common.{take}
use Rattle.paging_model.specs.Counting.{IsIn}
use Rattle.history_reference.proofs.made_entries.has_entry.Given as goal

-- none of the entries so far is it
abbrev pub invariant-loop-other : goal.invariant-loop-other
invariant-loop-other l = IsIn l.entry (take l.other-index l.list) → ⊥
