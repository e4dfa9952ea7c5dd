-- Ranges of memory: so many bytes from an address on.
use Rattle.std.specs.Prelude.{◌≡◌, ℕ, ◌+◌, ◌*◌, ◌/◌, ◌%◌, ◌<◌, ◌≤◌, ◌⊎◌, List, length, slice_index, Option, Some, IsSome, IsTrue}
use Rattle.std.specs.Borrow.{Bor}
use Rattle.std.specs.Option.{ForSome}
use Rattle.paging_model.specs.Memory.{Memory, Extent}
use Rattle.elf_core.specs.Covering.{first_covering}
use Rattle.phys_view.specs.Seen.{Seen, is_written, memory_of}

-- how many slots the range touches; a slot is eight bytes at a multiple of 8
abbrev pub slot_count : ℕ → ℕ → ℕ
slot_count a n = (a % 8 + n + 7) / 8

-- these bytes are what memory holds in the range
pub record StandAt (memory : Memory) (a n : ℕ) (bytes : List ℕ) : Type 0 where
  pub count : length bytes ≡ n
  pub each : (k : ℕ) → k < n → memory (a + k) ≡ Some (slice_index bytes k)

-- one extent is the first that covers each byte of the range
pub record IsInOne (extents : List Extent) (a n : ℕ) : Type 0 where
  pub index : ℕ
  pub first : (k : ℕ) → k < n → first_covering extents (a + k) ≡ Some index

-- the range lies in a written page, and each of its bytes is known
pub record IsInWritten (seen : Seen) (a n : ℕ) : Type 0 where
  pub written : IsTrue (is_written seen a)
  pub known : (k : ℕ) → k < n → IsSome (memory_of seen (a + k))

-- the bytes of the range, which lies in one page, stand together in what a view keeps
abbrev pub IsTogether : Seen → ℕ → ℕ → Type 0
IsTogether seen a n = IsInWritten seen a n ⊎ IsInOne seen.extents a n

-- entries of one page that stand one after another from an address on, and what a view shows there
pub record SeenEntries : Type 0 where
  pub seen : Seen
  pub at : ℕ
  pub count : ℕ

-- so many entries are in one page, and these are their bytes, where they are borrowed
pub record AreBytesOf (seen : Seen) (a n : ℕ) (bytes : Option (Bor (List ℕ))) : Type 0 where
  pub aligned : a % 8 ≡ 0
  pub within : a % 4096 + 8 * n ≤ 4096
  pub stand : ForSome bytes (λ b. StandAt (memory_of seen) a (8 * n) b.now)
