-- The written pages as entries of a map: their look-ups, and what the block of a page makes of them.
use Rattle.std.proofs.Common.{◌≡◌, ℕ, ◌+◌, ◌*◌, ◌==◌, List, [], ◌∷◌, map, length, Some, None, is_some, if◌then◌else◌, refl, arith}
use Rattle.std.proofs.lemmas.Bool.Decides.{nat_tests}
use Rattle.std.specs.FinMap.{find, put}
use Rattle.std.specs.Ordering.{nat_cmp}
use Rattle.block_map.specs.Blocks.{PageBlocks}
use Rattle.history_model.specs.History.{with_number}
use Rattle.history_model.specs.Refusals.{is_among}

-- a page is among the written ones where it has bytes
pub is_among-is : (n : ℕ) (pages : PageBlocks) → is_among (n * 4096) (map (λ page. page.0 * 4096) pages) ≡ is_some (find nat_cmp n pages)
is_among-is n [] = refl
is_among-is n (page ∷ rest) = grind (arith, nat_tests, is_among-is n rest)

pub pages-put : (n : ℕ) (bytes : List ℕ) (pages : PageBlocks)
    → map (λ page. page.0 * 4096) (put nat_cmp n bytes pages) ≡ with_number (n * 4096) (map (λ page. page.0 * 4096) pages)
pages-put n bytes [] = refl
pages-put n bytes (page ∷ rest) = grind (arith, nat_tests, pages-put n bytes rest)

pub find-put : (q n : ℕ) (bytes : List ℕ) (pages : PageBlocks)
    → find nat_cmp q (put nat_cmp n bytes pages) ≡ (if q == n then Some bytes else find nat_cmp q pages)
find-put q n bytes [] = grind (arith, nat_tests)
find-put q n bytes (page ∷ rest) = grind (arith, nat_tests, find-put q n bytes rest)

pub length-put : (n : ℕ) (bytes : List ℕ) (pages : PageBlocks) → find nat_cmp n pages ≡ None → length (put nat_cmp n bytes pages) ≡ length pages + 1
length-put n bytes [] absent = refl
length-put n bytes (page ∷ rest) absent = grind (arith, nat_tests, length-put n bytes rest)
