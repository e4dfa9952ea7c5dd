-- What one entry gives of a space, by what it means, and where the parts that are found lie.
use Rattle.std.specs.Prelude.{ℕ, ◌+◌, ◌-◌, ◌<◌, ◌≤◌, List, [], ◌∷◌, Option, Some}
use Rattle.paging_model.specs.Memory.{Memory}
use Rattle.paging_model.specs.LinearAddress.{span}
use Rattle.paging_model.specs.Entries.{joined_bits}
use Rattle.paging_model.specs.TableUses.{Leaf}
use Rattle.paging_model.specs.declared.registers.Settings.{Settings}
use Rattle.paging_model.specs.declared.entries.Bits.{Bits}
use Rattle.paging_model.specs.declared.entries.Entry.{Entry}
use Rattle.paging_model.specs.declared.entries.Entry.TheVariants as entry
use Rattle.paging_model.specs.declared.spaces.TableUse.{TableUse}
use Rattle.paging_laws.specs.SpaceParts.{uses_in, leaves_in}

-- the uses by an entry of a level whose range begins at an address: of the table that it references, and of those below
abbrev pub uses_at : Memory → Settings → ℕ → ℕ → Bits → Option Entry → List TableUse
uses_at memory settings level first above (Some (entry.Table frame bits)) =
    record { level = level - 1; prefix = first; frame = frame; bits = joined_bits above bits }
    ∷ uses_in memory settings (level - 1) frame first (joined_bits above bits) 0 512
uses_at memory settings level first above _ = []

-- the pages by an entry: its own, or those of the table that it references
abbrev pub leaves_at : Memory → Settings → ℕ → ℕ → Bits → Option Entry → List Leaf
leaves_at memory settings level first above (Some (entry.Leaf frame bits key global)) =
    record { level = level; prefix = first } ∷ []
leaves_at memory settings level first above (Some (entry.Table frame bits)) =
    leaves_in memory settings (level - 1) frame first (joined_bits above bits) 0 512
leaves_at memory settings level first above _ = []

-- a table of a level below this one serves a part of a range
pub record TableLiesIn (level low high : ℕ) (table : TableUse) : Type 0 where
  pub lower : table.level < level
  pub from : low ≤ table.prefix
  pub before : table.prefix < high
  pub ends : table.prefix + span (table.level + 1) ≤ high

-- a page of this level or of one below is a part of a range
pub record PageLiesIn (level low high : ℕ) (leaf : Leaf) : Type 0 where
  pub lower : leaf.level ≤ level
  pub from : low ≤ leaf.prefix
  pub before : leaf.prefix < high
  pub ends : leaf.prefix + span leaf.level ≤ high
