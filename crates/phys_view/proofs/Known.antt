-- Which bytes are known, by the stretches of memory that they stand in.
use Rattle.std.proofs.Common.{◌≡◌, ℕ, zero, suc, ◌+◌, ◌-◌, ◌<◌, ◌≤◌, inl, inr, List, [], ◌∷◌, length, min, Option, Some, None, option_map, is_some, Bool, true, false, if◌then◌else◌, refl, sym, ◌∙◌, arith}
use Rattle.std.specs.Prelude.{slice_index}
use Rattle.paging_model.specs.Memory.{Memory, Extent, covers, byte_in}
use Rattle.elf_core.specs.Covering.{first_covering, IsCoveredRun, IsUnknownRun}
use Rattle.history_model.specs.Refusals.{first_unknown}
use Rattle.phys_view.specs.Ranges.{IsTogether}
use Rattle.phys_view.specs.Seen.{Seen, memory_of, written_page, rewritten}

-- a byte that the segments have is known, and another one isn't
pub known-is : (seen : Seen) (a v : ℕ) → byte_in seen.extents a ≡ Some v → is_some (memory_of seen a) ≡ true
known-is seen a v byte = rw byte refl

pub unknown-is : (seen : Seen) (a : ℕ) → byte_in seen.extents a ≡ None → memory_of seen a ≡ None
unknown-is seen a byte = rw byte refl

-- known bytes are skipped
pub first_unknown-past : (memory : Memory) (a n k : ℕ) → k ≤ n → ((j : ℕ) → j < k → is_some (memory (a + j)) ≡ true)
    → first_unknown memory a n ≡ first_unknown memory (a + k) (n - k)
first_unknown-past memory a n zero within known =
    let here : a + 0 ≡ a = omega arith in
    let count : n - 0 ≡ n = omega arith in
    rw (here, count) refl
first_unknown-past memory a zero (suc k) within known = absurd (omega arith)
first_unknown-past memory a (suc n) (suc k) within known =
    let here : a + 0 ≡ a = omega arith in
    let first : is_some (memory a) ≡ true = rw here at (known 0 (omega arith)) in
    let on : a + 1 + k ≡ a + suc k = omega arith in
    let left : suc n - suc k ≡ n - k = omega arith in
    let rest = first_unknown-past memory (a + 1) n k (omega arith) (λ j h.
    let same : a + 1 + j ≡ a + suc j = omega arith in rw same (known (suc j) (omega arith))) in
    rw first (rest ∙ rw (on, left) refl)

pub first_unknown-here : (memory : Memory) (a n : ℕ) → 0 < n → memory a ≡ None → first_unknown memory a n ≡ Some a
first_unknown-here memory a zero some unknown = absurd (omega arith)
first_unknown-here memory a (suc n) some unknown = rw unknown refl

-- the bytes of a stretch are skipped
pub first_unknown-run : (seen : Seen) (a n : ℕ) (bytes : List ℕ) (k : ℕ) → k ≡ min n (length bytes) → IsCoveredRun seen.extents a bytes
    → first_unknown (memory_of seen) a n ≡ first_unknown (memory_of seen) (a + k) (n - k)
first_unknown-run seen a n bytes k is run =
    first_unknown-past (memory_of seen) a n k (grind arith) (λ j h. known-is seen (a + j) _ (run.each j (grind arith)))

pub first_unknown-stop : (seen : Seen) (a n count : ℕ) → 0 < n → IsUnknownRun seen.extents a count → first_unknown (memory_of seen) a n ≡ Some a
first_unknown-stop seen a n count some run =
    let same : a + 0 ≡ a = omega arith in
    first_unknown-here (memory_of seen) a n some (unknown-is seen a (rw same at (run.each 0 run.some)))

-- all of them are known
pub first_unknown-none : (memory : Memory) (a n : ℕ) → ((j : ℕ) → j < n → is_some (memory (a + j)) ≡ true) → first_unknown memory a n ≡ None
first_unknown-none memory a n known =
    let end : n - n ≡ 0 = omega arith in
    first_unknown-past memory a n n (omega arith) known ∙ rw end refl

some_first : (test : Bool) (rest : Option ℕ) (a : ℕ) → (if test then rest else Some a) ≡ None → test ≡ true
some_first true rest a none = refl
some_first false rest a none = absurd (grind arith)

split : (memory : Memory) (a n : ℕ) → (is_some (memory a) ≡ true → (k : ℕ) → k < n → is_some (memory (a + 1 + k)) ≡ true)
    → first_unknown memory a (suc n) ≡ None → (j : ℕ) → j < suc n → is_some (memory (a + j)) ≡ true
split memory a n later none zero less =
    let here : a + 0 ≡ a = omega arith in
    rw here (some_first (is_some (memory a)) _ a none)
split memory a n later none (suc j) less =
    let on : a + 1 + j ≡ a + suc j = omega arith in
    rw on at (later (some_first (is_some (memory a)) _ a none) j (omega arith))

covering-later : (found : Option ℕ) (i : ℕ) (known : Bool) → ((j : ℕ) → found ≡ Some j → known ≡ true) → option_map suc found ≡ Some i → known ≡ true
covering-later None i known later same = absurd (grind arith)
covering-later (Some j) i known later same = later j refl

covering-test : (test : Bool) (found byte : Option ℕ) (v i : ℕ) → ((j : ℕ) → found ≡ Some j → is_some byte ≡ true)
    → (if test then Some 0 else option_map suc found) ≡ Some i → is_some (if test then Some v else byte) ≡ true
covering-test true found byte v i later same = refl
covering-test false found byte v i later same = covering-later found i (is_some byte) later same

covering-first : (extent : Extent) (rest : List Extent) (a i : ℕ) → ((j : ℕ) → first_covering rest a ≡ Some j → is_some (byte_in rest a) ≡ true)
    → first_covering (extent ∷ rest) a ≡ Some i → is_some (byte_in (extent ∷ rest) a) ≡ true
covering-first extent rest a i later first =
    covering-test (covers extent a) (first_covering rest a) (byte_in rest a) (slice_index extent.bytes (a - extent.start)) i later first

pub known-all : (memory : Memory) (a n j : ℕ) → first_unknown memory a n ≡ None → j < n → is_some (memory (a + j)) ≡ true
known-all memory a zero j none within = absurd (omega arith)
known-all memory a (suc n) j none within =
    split memory a n (λ first. λ k less. known-all memory (a + 1) n k (rw first at none) less) none j within

covering-known : (extents : List Extent) (a i : ℕ) → first_covering extents a ≡ Some i → is_some (byte_in extents a) ≡ true
covering-known [] a i first = absurd (grind arith)
covering-known (extent ∷ rest) a i first = covering-first extent rest a i (λ j found. covering-known rest a j found) first

shows-known : (seen : Seen) (a : ℕ) → is_some (byte_in seen.extents a) ≡ true → is_some (memory_of seen a) ≡ true
shows-known seen a known = go (byte_in seen.extents a) known
  where
    go : (byte : Option ℕ) → is_some byte ≡ true → is_some (option_map (rewritten (written_page seen a) a) byte) ≡ true
    go None known = known
    go (Some v) known = refl

-- bytes that stand together are known
pub together-known : (seen : Seen) (a n k : ℕ) → IsTogether seen a n → k < n → is_some (memory_of seen (a + k)) ≡ true
together-known seen a n k (inl in_written) within = in_written.known k within
together-known seen a n k (inr one) within = shows-known seen (a + k) (covering-known seen.extents (a + k) one.index (one.first k within))

pub not_together : (seen : Seen) (a n u : ℕ) → Some u ≡ first_unknown (memory_of seen) a n → IsTogether seen a n → ⊥
not_together seen a n u unknown together =
    let none = first_unknown-none (memory_of seen) a n (λ j h. together-known seen a n j together h) in
    let same : Some u ≡ None = unknown ∙ none in
    grind arith

pub not_together-here : (seen : Seen) (a n : ℕ) → 1 ≤ n → byte_in seen.extents a ≡ None → IsTogether seen a n → ⊥
not_together-here seen a n some unknown together =
    not_together seen a n a (sym (first_unknown-here (memory_of seen) a n some (unknown-is seen a unknown))) together
