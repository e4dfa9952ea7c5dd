-- The pages below a bound, as a function gives their blocks: what is found among them, and what a new block makes of them.
use Rattle.std.proofs.Common.{◌≡◌, ◌≢◌, ℕ, zero, suc, ◌+◌, ◌<◌, ◌≤◌, ◌==◌, List, [], length, Option, None, Some, is_some, option_map, Bool, true, false, cond, if◌then◌else◌, inl, inr, refl, sym, ap, ◌∙◌, arith}
use Rattle.std.specs.Prelude.{T}
use Rattle.std.proofs.lemmas.Bool.{cases_eq, cases_lt}
use Rattle.std.proofs.lemmas.Bool.Decides.{nat_tests}
use Rattle.std.specs.Option.{option_map_or}
use Rattle.std.specs.Ordering.{nat_cmp, eq_by_cmp}
use Rattle.std.specs.Cmp.{nat_cmp_total}
use Rattle.std.specs.FinMap.{find, put, is_sorted, nat_cmp-IsAntisymmetric}
use Rattle.std.specs.FinMap.Entries.{is_sorted-put, find-put, length-put, same_entries}
use Rattle.block_map.specs.Blocks.{PageBlocks, pages_below}

eq_by_cmp-is : (m n : ℕ) → eq_by_cmp nat_cmp m n ≡ (m == n)
eq_by_cmp-is m n = grind (arith, nat_tests)

-- a page put among others, where it has a block
with_page : ℕ → Option (List ℕ) → PageBlocks → PageBlocks
with_page n block pages = option_map_or (λ bytes. put nat_cmp n bytes pages) block pages

is_sorted-with_page : (n : ℕ) (block : Option (List ℕ)) (pages : PageBlocks) → T (is_sorted nat_cmp pages) → T (is_sorted nat_cmp (with_page n block pages))
unfolding with_page
is_sorted-with_page n None pages sorted = sorted
is_sorted-with_page n (Some bytes) pages sorted = is_sorted-put nat_cmp nat_cmp_total n bytes pages sorted

find-put-is : (q k : ℕ) (bytes : List ℕ) (pages : PageBlocks) → find nat_cmp q (put nat_cmp k bytes pages) ≡ (if q == k then Some bytes else find nat_cmp q pages)
find-put-is q k bytes pages = find-put nat_cmp nat_cmp_total q k bytes pages ∙ rw eq_by_cmp-is (branch (q == k) _ _)
  where
    branch : (test : Bool) (one other : Option (List ℕ)) → cond test one other ≡ (if test then one else other)
    branch true one other = refl
    branch false one other = refl

find-with_page_other : (q n : ℕ) (block : Option (List ℕ)) (pages : PageBlocks) → q ≢ n → find nat_cmp q (with_page n block pages) ≡ find nat_cmp q pages
unfolding with_page
find-with_page_other q n None pages other = refl
find-with_page_other q n (Some bytes) pages other = grind (arith, nat_tests, find-put-is q n bytes pages)

find-with_page_same : (n : ℕ) (block : Option (List ℕ)) (pages : PageBlocks) → find nat_cmp n pages ≡ None → find nat_cmp n (with_page n block pages) ≡ block
unfolding with_page
find-with_page_same n None pages none = none
find-with_page_same n (Some bytes) pages none = grind (arith, nat_tests, find-put-is n n bytes pages)

pages_below-suc : (n : ℕ) (block_of : ℕ → Option (List ℕ)) → pages_below (suc n) block_of ≡ with_page n (block_of n) (pages_below n block_of)
unfolding pages_below with_page
pages_below-suc n block_of = refl

pub is_sorted-pages : (bound : ℕ) (block_of : ℕ → Option (List ℕ)) → T (is_sorted nat_cmp (pages_below bound block_of))
unfolding pages_below with_page
is_sorted-pages zero block_of = tt
is_sorted-pages (suc n) block_of = is_sorted-with_page n (block_of n) _ (is_sorted-pages n block_of)

find-past : (bound : ℕ) (block_of : ℕ → Option (List ℕ)) (q : ℕ) → bound ≤ q → find nat_cmp q (pages_below bound block_of) ≡ None
unfolding pages_below
find-past zero block_of q past = refl
find-past (suc n) block_of q past = rw pages_below-suc (find-with_page_other q n (block_of n) _ (omega arith) ∙ find-past n block_of q (omega arith))

-- the block of a page is found
pub find-pages : (bound : ℕ) (block_of : ℕ → Option (List ℕ)) (q : ℕ) → q < bound → find nat_cmp q (pages_below bound block_of) ≡ block_of q
find-pages zero block_of q below = absurd (omega arith)
find-pages (suc n) block_of q below = rw pages_below-suc (elim (cases_lt q n) [
  | inl less ↦ find-with_page_other q n (block_of n) _ (omega arith) ∙ find-pages n block_of q less
  | inr last ↦
      let same : q ≡ n = omega arith in
      rw same (find-with_page_same n (block_of n) _ (find-past n block_of n (omega arith)))
])

-- functions that give the same blocks give the same pages
pub pages-same : (bound : ℕ) (old new : ℕ → Option (List ℕ)) → ((n : ℕ) → new n ≡ old n) → pages_below bound new ≡ pages_below bound old
pages-same bound old new same =
    same_entries nat_cmp nat_cmp_total nat_cmp-IsAntisymmetric _ _ (is_sorted-pages bound new) (is_sorted-pages bound old)
    (λ q. elim (cases_lt q bound) [
      | inl below ↦ find-pages bound new q below ∙ same q ∙ sym (find-pages bound old q below)
      | inr past ↦ find-past bound new q past ∙ sym (find-past bound old q past)
    ])

-- a function that gives one page another block
pub pages-put : (bound : ℕ) (old new : ℕ → Option (List ℕ)) (k : ℕ) (bytes : List ℕ) → k < bound → ((n : ℕ) → new n ≡ (if n == k then Some bytes else old n))
    → pages_below bound new ≡ put nat_cmp k bytes (pages_below bound old)
pages-put bound old new k bytes within changed =
    same_entries nat_cmp nat_cmp_total nat_cmp-IsAntisymmetric _ _ (is_sorted-pages bound new) (is_sorted-put nat_cmp nat_cmp_total k bytes _ (is_sorted-pages bound old))
    (λ q. elim (cases_lt q bound) [
      | inl below ↦ grind (arith, nat_tests, find-pages bound new q below, changed q, find-pages bound old q below, find-put-is q k bytes (pages_below bound old))
      | inr past ↦ grind (arith, nat_tests, find-past bound new q past, find-past bound old q past, find-put-is q k bytes (pages_below bound old))
    ])

-- no blocks, no pages
pub pages-none : (bound : ℕ) (block_of : ℕ → Option (List ℕ)) → ((n : ℕ) → block_of n ≡ None) → pages_below bound block_of ≡ []
unfolding pages_below
pages-none zero block_of none = refl
pages-none (suc n) block_of none = rw (none n) (pages-none n block_of none)

-- how many pages there are with a new block
pub length-pages-put : (bound : ℕ) (block_of : ℕ → Option (List ℕ)) (k : ℕ) (bytes : List ℕ) → k < bound → length (put nat_cmp k bytes (pages_below bound block_of)) ≡ length (pages_below bound block_of) + (if is_some (block_of k) then 0 else 1)
length-pages-put bound block_of k bytes within =
    length-put nat_cmp nat_cmp_total k bytes _ (is_sorted-pages bound block_of) ∙ rw (find-pages bound block_of k within) (more (is_some (block_of k)) _)
  where
    more : (has : Bool) (n : ℕ) → cond has n (n + 1) ≡ n + (if has then 0 else 1)
    more true n = omega arith
    more false n = omega arith

-- one page's block is changed, where it has one
abbrev pub Rewrites : (ℕ → Option (List ℕ)) → (ℕ → Option (List ℕ)) → ℕ → (List ℕ → List ℕ) → Type 0
Rewrites old new k change = (n : ℕ) → new n ≡ (if n == k then option_map change (old k) else old n)

pub pages-unwritten : (bound : ℕ) (old new : ℕ → Option (List ℕ)) (k : ℕ) (change : List ℕ → List ℕ) → Rewrites old new k change → old k ≡ None → pages_below bound new ≡ pages_below bound old
pages-unwritten bound old new k change rewrites none = pages-same bound old new (λ n. elim (cases_eq n k) [
  | inl same ↦ grind (arith, nat_tests, rewrites n)
  | inr other ↦ grind (arith, nat_tests, rewrites n)
])

pub pages-rewritten : (bound : ℕ) (old new : ℕ → Option (List ℕ)) (k : ℕ) (change : List ℕ → List ℕ) (block : List ℕ) → k < bound → Rewrites old new k change → old k ≡ Some block
    → pages_below bound new ≡ put nat_cmp k (change block) (pages_below bound old)
pages-rewritten bound old new k change block within rewrites some =
    pages-put bound old new k (change block) within (λ n. rewrites n ∙ ap (λ found. if n == k then option_map change found else old n) some)

-- there are as many pages
pub length-rewritten : (bound : ℕ) (old new : ℕ → Option (List ℕ)) (k : ℕ) (change : List ℕ → List ℕ) → k < bound → Rewrites old new k change → length (pages_below bound new) ≡ length (pages_below bound old)
length-rewritten bound old new k change within rewrites = by_block (old k) refl
  where
    by_block : (found : Option (List ℕ)) → old k ≡ found → length (pages_below bound new) ≡ length (pages_below bound old)
    by_block None none = ap length (pages-unwritten bound old new k change rewrites none)
    by_block (Some block) some =
        ap length (pages-rewritten bound old new k change block within rewrites some)
        ∙ length-pages-put bound old k (change block) within ∙ rw some (omega arith)

-- there is one page more, if the page had no block
pub length-inserted : (bound : ℕ) (old new : ℕ → Option (List ℕ)) (k : ℕ) (bytes : List ℕ) → k < bound → ((n : ℕ) → new n ≡ (if n == k then Some bytes else old n))
    → length (pages_below bound old) + (if is_some (old k) then 0 else 1) ≡ length (pages_below bound new)
length-inserted bound old new k bytes within changed =
    sym (ap length (pages-put bound old new k bytes within changed) ∙ length-pages-put bound old k bytes within)
