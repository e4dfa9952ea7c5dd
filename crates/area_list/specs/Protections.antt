-- Protections by their numbers: a page's joined bits are the low three bits, and its key the four above them.
use Rattle.std.specs.Prelude.{◌≡◌, ℕ, ◌+◌, ◌*◌, ◌<◌, List, slice_index_or, if◌then◌else◌}
use Rattle.paging_model.specs.AccessRights.{is_granted}
use Rattle.paging_model.specs.AccessSets.{has}
use Rattle.paging_model.specs.BitRanges.{bit}
use Rattle.paging_model.specs.declared.access.Access.{Access}
use Rattle.paging_model.specs.declared.entries.Bits.{Bits}
use Rattle.paging_model.specs.declared.registers.Regs.{Regs}

abbrev pub protection_number : Bits → ℕ → ℕ
protection_number bits key = 8 * key + (if bits.xd then 4 else 0) + (if bits.user then 2 else 0) + (if bits.write then 1 else 0)

abbrev pub bits_of_number : ℕ → Bits
bits_of_number number = record { write = bit number 0; user = bit number 1; xd = bit number 2 }

-- by the number of each protection, the accesses that no rule refuses to its pages
abbrev pub ArePermitted : Regs → List ℕ → Type 0
ArePermitted regs permitted =
    (bits : Bits) (key d : ℕ) → key < 16
    → (access : Access) → has (slice_index_or permitted (protection_number bits key) d) access ≡ is_granted regs access bits key
