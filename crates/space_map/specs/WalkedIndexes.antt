-- What a walk adds to the index of a space: the tables that it finds, each with the number of its entries that map a page.
-- SDM 3A, "4-Level Paging and 5-Level Paging".
use Rattle.std.specs.Prelude.{◌≡◌, ℕ, ◌+◌, ◌<◌, ◌≤◌, ◌⊎◌, List, Option}
use Rattle.paging_model.specs.Counting.{IsIn}
use Rattle.paging_model.specs.Memory.{Memory}
use Rattle.paging_model.specs.declared.entries.Bits.{Bits}
use Rattle.paging_model.specs.declared.registers.Settings.{Settings}
use Rattle.paging_model.specs.declared.spaces.TableUse.{TableUse}
use Rattle.paging_laws.specs.EntryParts.{uses_at}
use Rattle.frame_index.specs.CountedUses.{pages_counted}
use Rattle.frame_index.specs.declared.counted_use.CountedUse.{CountedUse}
use Rattle.kept_laws.specs.PageNumbers.{page_number, pages_in, pages_of_entry}
use Rattle.space_map.specs.Walks.{meaning, uses_from}
use Rattle.space_map.specs.declared.partial.PartialSpace.{PartialSpace}

-- no use of a level below this one begins in a range
pub record IsFresh (level low high : ℕ) (index : List CountedUse) : Type 0 where
  pub none : (one : CountedUse) → IsIn one index → one.table.level < level → low ≤ one.table.prefix
      → one.table.prefix < high → ⊥

-- a table with the number of its entries that map a page
abbrev pub with_page_number : Memory → Settings → TableUse → CountedUse
with_page_number memory settings table = record { table = table; pages = page_number memory settings table }

-- an index has what it had, and these tables with their numbers
pub record IsJoined (memory : Memory) (settings : Settings) (tables : List TableUse) (old new : List CountedUse) : Type 0 where
  pub each : (one : CountedUse) → IsIn one new
      → (IsIn one old ⊎ (IsIn one.table tables × (one.pages ≡ page_number memory settings one.table)))
  pub was : (one : CountedUse) → IsIn one old → IsIn one new
  pub is : (table : TableUse) → IsIn table tables → IsIn (with_page_number memory settings table) new

-- these tables are in the index, which counts all pages that were found, but so many
pub record IsIndexed (memory : Memory) (settings : Settings) (tables : List TableUse) (pages : ℕ)
    (old new : PartialSpace) : Type 0 where
  pub joined : IsJoined memory settings tables old.index new.index
  pub pages_are : new.leaves + pages_counted old.index ≡ old.leaves + pages_counted new.index + pages

-- the tables that are found at so many entries of a table, and below them, are in the index; so many of the entries map
-- a page
pub record IndexesSlots (memory : Memory) (settings : Settings) (table : TableUse) (from count : ℕ)
    (old new : PartialSpace) (pages : ℕ) : Type 0 where
  pub indexed : IsIndexed memory settings (uses_from memory settings table from count) pages old new
  pub pages_are : pages ≡ pages_in memory settings table.level table.frame from count

-- the same of one entry by its value, whose range begins at an address
pub record IndexesEntry (memory : Memory) (settings : Settings) (level first : ℕ) (above : Bits) (value : Option ℕ)
    (old new : PartialSpace) (pages : ℕ) : Type 0 where
  pub indexed : IsIndexed memory settings (uses_at memory settings level first above (meaning settings level value)) pages
      old new
  pub pages_are : pages ≡ pages_of_entry (meaning settings level value)
