-- What two memories share where a walk reads equal entries in both.
use Rattle.std.specs.Prelude.{◌≡◌, ℕ, ◌<◌}
use Rattle.paging_model.specs.Memory.{Memory, entry_at}
use Rattle.paging_model.specs.TableUses.{Reaches}
use Rattle.paging_model.specs.Walking.{entry_address}
use Rattle.paging_model.specs.declared.registers.Settings.{Settings}
use Rattle.paging_model.specs.declared.entries.Bits.{Bits}

-- the entry of a level that serves x in a table is the same in both memories
abbrev pub IsReadAlike : Memory → Memory → ℕ → ℕ → ℕ → Type 0
IsReadAlike one other level x table =
    entry_at one (entry_address level x table) ≡ entry_at other (entry_address level x table)

-- each entry that the walk of x reads in the one memory is the same in the other
abbrev pub ReadAlike : Memory → Memory → Settings → ℕ → ℕ → Type 0
ReadAlike one other settings root x =
    (level table : ℕ) (above : Bits) → Reaches one settings root level x table above → IsReadAlike one other level x table

-- each entry of the levels above one is
abbrev pub ReadAlikeAbove : ℕ → Memory → Memory → Settings → ℕ → ℕ → Type 0
ReadAlikeAbove least one other settings root x =
    (level table : ℕ) (above : Bits) → least < level → Reaches one settings root level x table above
    → IsReadAlike one other level x table
