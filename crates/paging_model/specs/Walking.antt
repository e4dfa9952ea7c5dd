-- The walk of one linear address through the paging structures, from the top table down.
-- SDM 3A, "Linear-Address Translation with 4-Level Paging and 5-Level Paging".
use Rattle.std.specs.Prelude.{ℕ, zero, suc, ◌+◌, ◌*◌, ◌/◌, ◌%◌, Option, Some, None, option_map, if◌then◌else◌}
use Rattle.paging_model.specs.Memory.{Memory, entry_at}
use Rattle.paging_model.specs.LinearAddress.{span, index}
use Rattle.paging_model.specs.Entries.{entry_of, joined_bits, root_bits}
use Rattle.paging_model.specs.declared.registers.Settings.{Settings}
use Rattle.paging_model.specs.declared.entries.Bits.{Bits}
use Rattle.paging_model.specs.declared.entries.Entry.{Entry}
use Rattle.paging_model.specs.declared.entries.Entry.TheVariants as entry
use Rattle.paging_model.specs.declared.walks.Walk.{Walk}
use Rattle.paging_model.specs.declared.walks.Walk.TheVariants.{Mapped, Absent, Reserved, Unknown}

-- the frame of the address's own 4-KByte page, within a page of a level
abbrev pub own_frame : ℕ → ℕ → ℕ → ℕ
own_frame level x frame = frame + x % span level / 4096 * 4096

-- the physical address of the entry of a level that serves an address, in a table
abbrev pub entry_address : ℕ → ℕ → ℕ → ℕ
entry_address level x table = table + 8 * index level x

-- what the entry of a level that serves an address means, in a table; none where a byte of it is unknown
abbrev pub entry_read : Memory → Settings → ℕ → ℕ → ℕ → Option Entry
entry_read memory settings level x table =
    option_map (λ value. entry_of level settings value) (entry_at memory (entry_address level x table))

-- what the walk comes to at an entry of a level, where `below` is the walk from the table that the entry references
abbrev pub at_entry : (ℕ → Bits → Walk) → ℕ → ℕ → Bits → Entry → Walk
at_entry below level x above entry.Absent = Absent level
at_entry below level x above entry.Reserved = Reserved level
at_entry below level x above (entry.Table frame bits) = below frame (joined_bits above bits)
at_entry below level x above (entry.Leaf frame bits key global) =
    Mapped (record { frame = own_frame level x frame; level = level; bits = joined_bits above bits; key = key; global = global })

-- what the walk comes to at an entry of a level by its value; none where a byte of it is unknown
abbrev pub at_value : (ℕ → Bits → Walk) → Settings → ℕ → ℕ → Bits → Option ℕ → Walk
at_value below settings level x above None = Unknown level
at_value below settings level x above (Some value) = at_entry below level x above (entry_of level settings value)

-- the walk from a table of a level down, under the bits that were joined above it
-- (there is no level 0: no entry of level 1 references a table)
unfoldable pub walk_from : Memory → Settings → ℕ → ℕ → ℕ → Bits → Walk
walk_from memory settings zero x table above = Absent 0
walk_from memory settings (suc lower) x table above =
    at_value (λ frame bits. walk_from memory settings lower x frame bits) settings (suc lower) x above
    (entry_at memory (entry_address (suc lower) x table))

-- 5 levels with LA57, else 4
abbrev pub top_level : Settings → ℕ
top_level settings = if settings.la57 then 5 else 4

-- the walk from a root
unfoldable pub walk : Memory → Settings → ℕ → ℕ → Walk
walk memory settings root x = walk_from memory settings (top_level settings) x root root_bits
