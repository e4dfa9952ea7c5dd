-- Linear addresses: which are canonical, and how an address selects an entry of each table.
-- SDM 1, "Canonical Addressing"; SDM 3A, "4-Level Paging and 5-Level Paging".
use Rattle.std.specs.Prelude.{◌≡◌, ℕ, ◌+◌, ◌-◌, ◌*◌, ◌/◌, ◌%◌, ◌^◌, ◌<◌, ◌||◌, ◌==◌, Bool, IsTrue, if◌then◌else◌}
use Rattle.paging_model.specs.BitRanges.{field}

-- bits 63:56 are equal with 5 levels, bits 63:47 with 4
abbrev pub is_canonical : Bool → ℕ → Bool
is_canonical five_levels x =
    if five_levels then (field x 63 56 == 0 || field x 63 56 == 2 ^ 8 - 1) else (field x 63 47 == 0 || field x 63 47 == 2 ^ 17 - 1)

-- the length in bytes of the range that one entry of a level serves: 4 KBytes at level 1, 512 times as much a level up
abbrev pub span : ℕ → ℕ
span level = 2 ^ (12 + 9 * (level - 1))

-- which entry of its table serves an address: bits 20:12 at level 1, 29:21 at 2, 38:30 at 3, 47:39 at 4, 56:48 at 5
abbrev pub index : ℕ → ℕ → ℕ
index level x = x / span level % 512

-- the first address of a 4-KByte page of canonical addresses
pub record IsPage (five_levels : Bool) (x : ℕ) : Type 0 where
  pub below : x < 2 ^ 64
  pub aligned : x % 4096 ≡ 0
  pub canonical : IsTrue (is_canonical five_levels x)
