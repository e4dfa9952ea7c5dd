-- The slots of a row of neighbouring pages.
use Rattle.std.specs.Prelude.{ℕ, List, Option, None, slice_index_or}

-- for each page of a row its block, where it has one
abbrev pub Slots : Type 0
Slots = List (Option (List ℕ))

-- the block at a place of a row
abbrev pub slot_at : Slots → ℕ → Option (List ℕ)
slot_at slots place = slice_index_or slots place None
