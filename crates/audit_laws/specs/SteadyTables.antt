-- Tables that serve an address as they did at each time since a processor's horizon. Our own words, of no manual.
use Rattle.std.specs.Prelude.{◌≡◌, ℕ, zero, suc, ◌≤◌, Bool, Some}
use Rattle.paging_model.specs.Memory.{Memory, entry_at}
use Rattle.paging_model.specs.Registers.{settings_of}
use Rattle.paging_model.specs.Translations.{raw_target, raw_target_of}
use Rattle.paging_model.specs.Walking.{entry_address, entry_read, walk_from}
use Rattle.paging_model.specs.declared.entries.Bits.{Bits}
use Rattle.paging_model.specs.declared.entries.Entry.TheVariants as entry
use Rattle.paging_model.specs.declared.registers.Regs.{Regs}
use Rattle.paging_model.specs.declared.registers.Settings.{Settings}
use Rattle.history_model.specs.History.{History, memory, machine, regs, time}
use Rattle.history_model.specs.CachedTranslations.{Held}
use Rattle.history_model.specs.Horizons.{horizon}
use Rattle.history_laws.specs.MomentsByTime.{moment_at}
use Rattle.history_laws.specs.QuietHistories.{IsPageOf}

-- the settings of processor p have been these since its horizon
abbrev pub HasSettings : History → ℕ → Settings → Type 0
HasSettings history p settings = (t : ℕ) (known : Regs) → horizon history p ≤ t → t ≤ time history
    → regs (moment_at history t) p ≡ Some known → settings_of known (machine history) ≡ settings

-- an address of physical memory has held what it holds now since the horizon of p, unknown or not
abbrev pub IsUnchanged : History → ℕ → ℕ → Type 0
IsUnchanged history p address = (t : ℕ) → horizon history p ≤ t → t ≤ time history
    → entry_at (memory (moment_at history t)) address ≡ entry_at (memory history) address

-- the entry of a table that serves x is unchanged, and so is what serves x in the table that it references
abbrev pub IsSteady : History → ℕ → Settings → ℕ → ℕ → ℕ → Type 0
IsSteady history p settings zero x table = Unit {0}
IsSteady history p settings (suc lower) x table =
    IsUnchanged history p (entry_address (suc lower) x table)
    × ((frame : ℕ) (bits : Bits)
    → entry_read (memory history) settings (suc lower) x table ≡ Some (entry.Table frame bits)
    → IsSteady history p settings lower x frame)

-- the present walk from a table ends at the page of a held translation of level k
pub record IsPresentBelow (history : History) (settings : Settings) (level x table : ℕ) (bits : Bits) (k : ℕ) (held : Held)
    : Type 0 where
  pub pages_are_global : Bool
  pub page : IsPageOf pages_are_global k x held (walk_from (memory history) settings level x table bits)

-- the present tables map x from a root as they do from a table
abbrev pub IsMappedFrom : Memory → Settings → ℕ → ℕ → ℕ → ℕ → Bits → Type 0
IsMappedFrom memory settings root level x table bits =
    raw_target memory settings root x ≡ raw_target_of (walk_from memory settings level x table bits)
