-- Blocks of bytes, and a pool of them.
use Rattle.std.specs.Prelude.{◌≡◌, ℕ, ◌+◌, List, ◌++◌, length, take, drop, All}

-- how many blocks of a pool are in use, and how many are spare
pub record Counts : Type 0 where
  pub live : ℕ
  pub spare : ℕ

-- how many blocks a pool has made
abbrev pub block_count : Counts → ℕ
block_count counts = counts.live + counts.spare

-- bytes with others in the place of those from an offset on
abbrev pub block_with : List ℕ → ℕ → List ℕ → List ℕ
block_with old at bytes = take at old ++ bytes ++ drop (at + length bytes) old

-- all bytes are 0
abbrev pub IsZero : List ℕ → Type 0
IsZero bytes = All (λ b. b ≡ 0) bytes
