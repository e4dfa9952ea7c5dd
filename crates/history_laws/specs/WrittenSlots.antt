-- Walks that a write passes by.
use Rattle.std.specs.Prelude.{ℕ}
use Rattle.paging_model.specs.Memory.{Memory}
use Rattle.paging_model.specs.TableUses.{Reaches}
use Rattle.paging_model.specs.Walking.{entry_address}
use Rattle.paging_model.specs.declared.entries.Bits.{Bits}
use Rattle.paging_model.specs.declared.registers.Settings.{Settings}
use Rattle.history_model.specs.KeptSpaces.{IsWrittenSlot}

-- no entry that the walk of x reads stands in a slot that a write of n bytes touches
abbrev pub ReadsNoWrittenSlot : Memory → Settings → ℕ → ℕ → ℕ → ℕ → Type 0
ReadsNoWrittenSlot memory settings root x at n =
    (level table : ℕ) (above : Bits) → Reaches memory settings root level x table above
    → IsWrittenSlot at n (entry_address level x table) → ⊥
