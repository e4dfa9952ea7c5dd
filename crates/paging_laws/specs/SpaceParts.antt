-- The tables and pages that a walk down finds: from entries of a table, and from the root of a space.
-- SDM 3A, "4-Level Paging and 5-Level Paging": an entry maps a page, or references a table of the level below.
use Rattle.std.specs.Prelude.{ℕ, zero, suc, ◌+◌, ◌-◌, ◌*◌, ◌^◌, List, [], ◌∷◌, ◌++◌, flat_map, filter_map, Option, Some, None, option_map}
use Rattle.std.specs.List.{range_with_len}
use Rattle.paging_model.specs.Memory.{Memory, entry_at}
use Rattle.paging_model.specs.LinearAddress.{span}
use Rattle.paging_model.specs.Entries.{entry_of, joined_bits, root_bits}
use Rattle.paging_model.specs.TableUses.{Leaf}
use Rattle.paging_model.specs.Walking.{top_level}
use Rattle.paging_model.specs.declared.registers.Settings.{Settings}
use Rattle.paging_model.specs.declared.entries.Bits.{Bits}
use Rattle.paging_model.specs.declared.entries.Entry.{Entry}
use Rattle.paging_model.specs.declared.entries.Entry.TheVariants as entry
use Rattle.paging_model.specs.declared.spaces.TableUse.{TableUse}

-- a part of a space: a table, as it serves the range of the entry that references it, or a page
pub data SpacePart : Type 0 where
  a_table : TableUse → SpacePart
  a_page : Leaf → SpacePart

-- what entry i of a table of a level means; none where a byte of it is unknown
abbrev pub slot_read : Memory → Settings → ℕ → ℕ → ℕ → Option Entry
slot_read memory settings level table i =
    option_map (λ value. entry_of level settings value) (entry_at memory (table + 8 * i))

-- the first address that entry i serves, in a table of a level whose entry 0 serves addresses from a prefix on
abbrev pub slot_prefix : ℕ → ℕ → ℕ → ℕ
slot_prefix level prefix i = prefix + i * span level

-- at an entry of the level above `lower` whose range begins at an address: a page; or a table, and what is found below it
abbrev pub found_at : (ℕ → ℕ → Bits → List SpacePart) → ℕ → ℕ → Bits → Option Entry → List SpacePart
found_at below lower first above None = []
found_at below lower first above (Some entry.Absent) = []
found_at below lower first above (Some entry.Reserved) = []
found_at below lower first above (Some (entry.Table frame bits)) =
    a_table (record { level = lower; prefix = first; frame = frame; bits = joined_bits above bits })
    ∷ below frame first (joined_bits above bits)
found_at below lower first above (Some (entry.Leaf frame bits key global)) =
    a_page (record { level = suc lower; prefix = first }) ∷ []

-- at so many entries, from one on, of a table of a level: by ascending address, where its entry 0 serves addresses from
-- a prefix on and these bits were joined above it; below them, at all 512 entries of each table
-- (there is no level 0: no entry of level 1 references a table)
unfoldable pub found : Memory → Settings → ℕ → ℕ → ℕ → Bits → ℕ → ℕ → List SpacePart
found memory settings zero table prefix above from count = []
found memory settings (suc lower) table prefix above from count =
    flat_map
    (λ i. found_at (λ frame first bits. found memory settings lower frame first bits 0 512) lower
    (slot_prefix (suc lower) prefix i) above (slot_read memory settings (suc lower) table i))
    (range_with_len from count)

abbrev pub use_of_part : SpacePart → Option TableUse
use_of_part (a_table one) = Some one
use_of_part (a_page leaf) = None

abbrev pub leaf_of_part : SpacePart → Option Leaf
leaf_of_part (a_table one) = None
leaf_of_part (a_page leaf) = Some leaf

-- the tables that are found there
unfoldable pub uses_in : Memory → Settings → ℕ → ℕ → ℕ → Bits → ℕ → ℕ → List TableUse
uses_in memory settings level table prefix above from count =
    filter_map use_of_part (found memory settings level table prefix above from count)

-- the pages that are found there
unfoldable pub leaves_in : Memory → Settings → ℕ → ℕ → ℕ → Bits → ℕ → ℕ → List Leaf
leaves_in memory settings level table prefix above from count =
    filter_map leaf_of_part (found memory settings level table prefix above from count)

-- the prefix of the top table for the upper half of the canonical addresses: there the range of its entry 511 ends with
-- the last address of all
abbrev pub upper_prefix : Settings → ℕ
upper_prefix settings = 2 ^ 64 - 512 * span (top_level settings)

-- the uses of a space: the top table's, then those that its entries 0 to 255 give, for the lower half of the canonical
-- addresses, and its entries 256 to 511, for the upper half
abbrev pub uses_of : Memory → Settings → ℕ → List TableUse
uses_of memory settings root =
    record { level = top_level settings; prefix = 0; frame = root; bits = root_bits }
    ∷ uses_in memory settings (top_level settings) root 0 root_bits 0 256
    ++ uses_in memory settings (top_level settings) root (upper_prefix settings) root_bits 256 256

-- its pages
abbrev pub leaves_of : Memory → Settings → ℕ → List Leaf
leaves_of memory settings root =
    leaves_in memory settings (top_level settings) root 0 root_bits 0 256
    ++ leaves_in memory settings (top_level settings) root (upper_prefix settings) root_bits 256 256
