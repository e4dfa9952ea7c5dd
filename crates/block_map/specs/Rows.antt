-- Rows by their keys, and their blocks by the numbers of pages.
use Rattle.std.specs.Prelude.{ℕ, ◌/◌, ◌%◌, nat_lt, List, Option, None, if◌then◌else◌, slice_index_or, option_and_then}
use Rattle.std.specs.Ordering.{nat_cmp}
use Rattle.std.specs.BTreeMap.{get}
use Rattle.block_map.specs.declared.rows.Rows.{Rows}
use Rattle.block_map.specs.Slots.{Slots, slot_at}

-- the row of a key: where it is below 2^18, so that its addresses are below 64 GiB, in the list, and else in the map
abbrev pub row_at : Rows → ℕ → Option Slots
row_at rows key = if nat_lt key 262144 then slice_index_or rows.low.items key None else get nat_cmp rows.high key

-- the block of a page
abbrev pub block_at : Rows → ℕ → Option (List ℕ)
block_at rows number = option_and_then (λ slots. slot_at slots (number % 64)) (row_at rows (number / 64))
