-- The walk of all that some entries of a table map.
-- SDM 3A, "4-Level Paging and 5-Level Paging".
use Rattle.std.specs.Prelude.{◌≡◌, ℕ, ◌+◌, ◌-◌, ◌*◌, ◌%◌, ◌^◌, ◌≤◌, List, length, Option, option_map, Result}
use Rattle.paging_model.specs.Entries.{IsFrame, entry_of}
use Rattle.paging_model.specs.LinearAddress.{span}
use Rattle.paging_model.specs.Memory.{Memory}
use Rattle.paging_model.specs.TableUses.{Leaf}
use Rattle.paging_model.specs.Translations.{raw_target_of}
use Rattle.paging_model.specs.Walking.{at_value, walk_from}
use Rattle.paging_model.specs.declared.entries.Bits.{Bits}
use Rattle.paging_model.specs.declared.entries.Entry.{Entry}
use Rattle.paging_model.specs.declared.registers.Settings.{Settings}
use Rattle.paging_model.specs.declared.spaces.TableUse.{TableUse}
use Rattle.paging_laws.specs.EntryParts.{uses_at, leaves_at}
use Rattle.paging_laws.specs.SpaceParts.{slot_prefix, uses_in, leaves_in}
use Rattle.space_map.specs.MappedRanges.{Mapping}
use Rattle.space_map.specs.PartialSpaces.{AddsRange}
use Rattle.space_map.specs.declared.faults.SpaceFault.{SpaceFault}
use Rattle.space_map.specs.declared.partial.PartialSpace.{PartialSpace}

-- a table that serves a whole range of its level from a prefix on, of addresses below 2 to the 64
pub record IsWalkable (table : TableUse) : Type 0 where
  pub least : 1 ≤ table.level
  pub most : table.level ≤ 5
  pub framed : IsFrame table.frame
  pub begins : table.prefix % (512 * span table.level) ≡ 0
  pub ends : table.prefix + 512 * span table.level ≤ 2 ^ 64

-- the first address that entry i serves
abbrev pub slot_first : TableUse → ℕ → ℕ
slot_first table i = slot_prefix table.level table.prefix i

-- the tables that are found at `count` entries from entry `from` on, and below them
abbrev pub uses_from : Memory → Settings → TableUse → ℕ → ℕ → List TableUse
uses_from memory settings table from count =
    uses_in memory settings table.level table.frame table.prefix table.bits from count

-- the pages that are found there
abbrev pub leaves_from : Memory → Settings → TableUse → ℕ → ℕ → List Leaf
leaves_from memory settings table from count =
    leaves_in memory settings table.level table.frame table.prefix table.bits from count

-- what the walk from a table of a level on maps a page to
abbrev pub target_from : Memory → Settings → ℕ → ℕ → Bits → Mapping
target_from memory settings level table above page =
    raw_target_of (walk_from memory settings level page table above)

-- the range of so many entries of a table is added
abbrev pub WalksSlots : {Value : Type 0} → Memory → Settings → TableUse → (from count : ℕ)
    → Result Value SpaceFault → PartialSpace → PartialSpace → Type 0
WalksSlots memory settings table from count result old new =
    AddsRange (slot_first table from) (slot_first table (from + count))
    (target_from memory settings table.level table.frame table.bits)
    (length (uses_from memory settings table from count))
    (length (leaves_from memory settings table from count)) result old new

-- what the value of an entry of a level means; none where a byte of it is unknown
abbrev pub meaning : Settings → ℕ → Option ℕ → Option Entry
meaning settings level value = option_map (λ known. entry_of level settings known) value

-- what the walk maps a page to that an entry of this value serves
abbrev pub target_by : Memory → Settings → ℕ → Bits → Option ℕ → Mapping
target_by memory settings level above value page =
    raw_target_of
    (at_value (λ frame bits. walk_from memory settings (level - 1) page frame bits)
    settings level page above value)

-- the range of an entry is added, which begins at an address
abbrev pub WalksEntry : {Value : Type 0} → Memory → Settings → (level first : ℕ) → Bits → Option ℕ
    → Result Value SpaceFault → PartialSpace → PartialSpace → Type 0
WalksEntry memory settings level first above value result old new =
    AddsRange first (first + span level) (target_by memory settings level above value)
    (length (uses_at memory settings level first above (meaning settings level value)))
    (length (leaves_at memory settings level first above (meaning settings level value)))
    result old new
