-- What one paging-structure entry means, at levels 5 (PML5E) to 1 (PTE).
-- SDM 3A, "4-Level Paging and 5-Level Paging": the tables of entry formats, and "Reserved Bits".
use Rattle.std.specs.Prelude.{◌≡◌, ℕ, ◌%◌, ◌^◌, ◌<◌, ◌==◌, ◌&&◌, ◌||◌, not, Bool, true, false, if◌then◌else◌}
use Rattle.paging_model.specs.BitRanges.{bit, field, in_place, some_bit}
use Rattle.paging_model.specs.declared.registers.Settings.{Settings}
use Rattle.paging_model.specs.declared.entries.Bits.{Bits}
use Rattle.paging_model.specs.declared.entries.Entry.{Entry}
use Rattle.paging_model.specs.declared.entries.Entry.TheVariants as entry

-- P, bit 0
abbrev pub is_present : ℕ → Bool
is_present value = bit value 0

-- PS, bit 7: the entry maps a large page
abbrev pub page_size : ℕ → Bool
page_size value = bit value 7

-- PS is reserved at levels 5 and 4, and at level 3 where there are no 1-GByte pages
abbrev pub page_size_is_reserved : ℕ → Settings → Bool
page_size_is_reserved level settings = level == 5 || level == 4 || (level == 3 && not settings.big)

-- the frame bits of a large page that are below its size: 29:13 of 1 GByte, 20:13 of 2 MBytes (bit 12 is PAT)
abbrev pub some_low_frame_bit : ℕ → ℕ → Bool
some_low_frame_bit level value = (level == 3 && some_bit value 29 13) || (level == 2 && some_bit value 20 13)

-- a reserved bit is 1: bits 51:M, XD without NXE, PS where no page of that size is, low frame bits of a large page
unfoldable pub is_reserved : ℕ → Settings → ℕ → Bool
is_reserved level settings value =
    some_bit value 51 settings.m
    || (not settings.nxe && bit value 63)
    || (page_size value && (page_size_is_reserved level settings || some_low_frame_bit level value))

-- the entry maps a page: at level 1, and with PS at levels 2 and 3
abbrev pub is_leaf : ℕ → ℕ → Bool
is_leaf level value = level == 1 || ((level == 2 || level == 3) && page_size value)

-- the physical address of a table: bits 51:12
abbrev pub table_frame : ℕ → ℕ
table_frame value = in_place value 51 12

-- the physical address of a page: bits 51:12 at level 1, 51:21 at level 2, 51:30 at level 3
abbrev pub page_frame : ℕ → ℕ → ℕ
page_frame level value =
    if level == 1 then in_place value 51 12 else (if level == 2 then in_place value 51 21 else in_place value 51 30)

-- R/W is bit 1, U/S bit 2, XD bit 63
abbrev pub bits_of : ℕ → Bits
bits_of value = record { write = bit value 1; user = bit value 2; xd = bit value 63 }

-- the protection key, bits 62:59
abbrev pub protection_key : ℕ → ℕ
protection_key value = field value 62 59

-- G, bit 8
abbrev pub is_global : ℕ → Bool
is_global value = bit value 8

-- an entry without P has no reserved bits
unfoldable pub entry_of : ℕ → Settings → ℕ → Entry
entry_of level settings value =
    if not (is_present value) then entry.Absent else
    (if is_reserved level settings value then entry.Reserved else
    (if is_leaf level value then entry.Leaf (page_frame level value) (bits_of value) (protection_key value) (is_global value) else
    entry.Table (table_frame value) (bits_of value)))

-- joining: write and user where both entries have them, execute-disable where one has it
-- (SDM 3A, "Determination of Access Rights")
abbrev pub joined_bits : Bits → Bits → Bits
joined_bits above below =
    record { write = above.write && below.write; user = above.user && below.user; xd = above.xd || below.xd }

-- above the top table nothing is refused
abbrev pub root_bits : Bits
root_bits = record { write = true; user = true; xd = false }

-- the physical address of a 4-KByte frame below the greatest physical width
pub record IsFrame (frame : ℕ) : Type 0 where
  pub aligned : frame % 4096 ≡ 0
  pub below : frame < 2 ^ 52

-- a table or a page has such a frame, and a page has a key under 16
abbrev pub HasFrame : Entry → Type 0
HasFrame (entry.Table frame bits) = IsFrame frame
HasFrame (entry.Leaf frame bits key global) = IsFrame frame × (key < 16)
HasFrame _ = Unit {0}
