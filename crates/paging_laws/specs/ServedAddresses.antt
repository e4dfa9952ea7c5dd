-- Which addresses a table serves.
use Rattle.std.specs.Prelude.{◌≡◌, ℕ, ◌+◌, ◌/◌, ◌⊎◌}
use Rattle.paging_model.specs.Memory.{Memory}
use Rattle.paging_model.specs.LinearAddress.{span}
use Rattle.paging_model.specs.TableUses.{IsUse}
use Rattle.paging_model.specs.Walking.{top_level}
use Rattle.paging_model.specs.declared.registers.Settings.{Settings}
use Rattle.paging_model.specs.declared.entries.Bits.{Bits}
use Rattle.paging_model.specs.declared.spaces.TableUse.{TableUse}

-- the table is the top one, or x lies in the range of the entry that references it
abbrev pub IsServedBy : Settings → TableUse → ℕ → Type 0
IsServedBy settings table x =
    (table.level ≡ top_level settings) ⊎ (x / span (table.level + 1) ≡ table.prefix / span (table.level + 1))

-- a use that serves x, of a table of a level at a frame with these bits joined above it
pub record UseFor (memory : Memory) (settings : Settings) (root level x frame : ℕ) (bits : Bits) : Type 0 where
  pub table : TableUse
  pub is_use : IsUse memory settings root table
  pub served : IsServedBy settings table x
  pub is_level : table.level ≡ level
  pub is_frame : table.frame ≡ frame
  pub is_bits : table.bits ≡ bits
