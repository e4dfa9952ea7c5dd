-- Physical memory: bytes at physical addresses, of which some aren't known.
-- System V gABI, "Program Header" for what a core knows; SDM 1, "Bit and Byte Order" for numbers of several bytes.
use Rattle.std.specs.Prelude.{ℕ, zero, suc, ◌+◌, ◌-◌, ◌*◌, ◌^◌, ◌<◌, ◌≤◌, ◌&&◌, List, [], ◌∷◌, length, slice_index, Option, Some, None, option_map, option_and_then, Bool, nat_le, nat_lt, if◌then◌else◌}

-- what is known of memory: the byte at an address, or none
abbrev pub Memory : Type 0
Memory = ℕ → Option ℕ

-- a part of memory whose bytes are known, from its first physical address on
pub record Extent : Type 0 where
  pub start : ℕ
  pub bytes : List ℕ

-- the address lies in the extent
abbrev pub covers : Extent → ℕ → Bool
covers extent a = nat_le extent.start a && nat_lt a (extent.start + length extent.bytes)

-- the byte of the first extent that covers the address; where none does, the byte is unknown
abbrev pub byte_in : List Extent → Memory
byte_in [] a = None
byte_in (extent ∷ rest) a =
    if covers extent a then Some (slice_index extent.bytes (a - extent.start)) else byte_in rest a

-- an extent has bytes, and all of them lie below the greatest physical width
pub record IsPlaced (extent : Extent) : Type 0 where
  pub some : 0 < length extent.bytes
  pub below : extent.start + length extent.bytes ≤ 2 ^ 52

-- the little-endian number in so many bytes from an address on; none where one of them is unknown
abbrev pub number_at : Memory → ℕ → ℕ → Option ℕ
number_at memory zero a = Some 0
number_at memory (suc n) a =
    option_and_then (λ low. option_map (λ high. low + 256 * high) (number_at memory n (a + 1))) (memory a)

-- a paging-structure entry: the eight bytes at a physical address
unfoldable pub entry_at : Memory → ℕ → Option ℕ
entry_at memory a = number_at memory 8 a
