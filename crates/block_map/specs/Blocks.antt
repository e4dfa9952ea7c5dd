-- The blocks of pages, by the pages' numbers.
use Rattle.std.specs.Prelude.{ℕ, zero, suc, List, [], Option}
use Rattle.std.specs.FinMap.{put}
use Rattle.std.specs.Option.{option_map_or}
use Rattle.std.specs.Ordering.{nat_cmp}

-- the pages that have a block, in the order of their numbers: of each its number and its bytes
abbrev pub PageBlocks : Type 0
PageBlocks = List (ℕ × List ℕ)

-- the pages below a number, each with the block that a function gives it
unfoldable pub pages_below : ℕ → (ℕ → Option (List ℕ)) → PageBlocks
pages_below zero block_of = []
pages_below (suc n) block_of = option_map_or (λ block. put nat_cmp n block (pages_below n block_of)) (block_of n) (pages_below n block_of)
