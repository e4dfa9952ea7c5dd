-- Which of several extents counts at an address, where they overlap: the first in order that covers it. (Our own choice;
-- the System V gABI, "Program Header", says nothing of segments that overlap.)
use Rattle.std.specs.Prelude.{◌≡◌, ◌≢◌, ℕ, suc, ◌+◌, ◌^◌, ◌<◌, ◌≤◌, List, [], ◌∷◌, length, slice_index, Option, Some, None, option_map, if◌then◌else◌}
use Rattle.paging_model.specs.Memory.{Extent, covers, byte_in}
use Rattle.elf_core.specs.declared.stretches.Stretch.{Stretch}
use Rattle.elf_core.specs.declared.stretches.Stretch.TheVariants as stretch

-- the index in the list of the first extent that covers an address
abbrev pub first_covering : List Extent → ℕ → Option ℕ
first_covering [] a = None
first_covering (extent ∷ rest) a =
    if covers extent a then Some 0 else option_map suc (first_covering rest a)

-- these bytes stand from an address on; one extent is the first to cover each of them, and not the byte after them
pub record IsCoveredRun (extents : List Extent) (a : ℕ) (bytes : List ℕ) : Type 0 where
  pub index : ℕ
  pub some : 1 ≤ length bytes
  pub below : a + length bytes ≤ 2 ^ 52
  pub first : (k : ℕ) → k < length bytes → first_covering extents (a + k) ≡ Some index
  pub ends : first_covering extents (a + length bytes) ≢ Some index
  pub each : (k : ℕ) → k < length bytes → byte_in extents (a + k) ≡ Some (slice_index bytes k)

-- so many bytes from an address on are unknown, one at least
pub record IsUnknownRun (extents : List Extent) (a n : ℕ) : Type 0 where
  pub some : 1 ≤ n
  pub each : (k : ℕ) → k < n → byte_in extents (a + k) ≡ None

-- how memory goes on from an address
abbrev pub IsStretchAt : List Extent → ℕ → Stretch → Type 0
IsStretchAt extents a (stretch.Known bytes) = IsCoveredRun extents a bytes.now
IsStretchAt extents a (stretch.Unknown n) = IsUnknownRun extents a n
