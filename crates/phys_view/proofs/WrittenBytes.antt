-- Memory after bytes were put into the block of their page.
use Rattle.std.proofs.Common.{◌≡◌, ◌≢◌, ℕ, ◌+◌, ◌-◌, ◌/◌, ◌%◌, ◌<◌, ◌≤◌, ◌==◌, ◌⊎◌, List, length, Option, Some, None, option_map, inl, inr, if◌then◌else◌, refl, sym, ◌∙◌, ap, arith}
use Rattle.std.proofs.lemmas.Bool.{cases_lt, cases_eq, cond-true, cond-false, eq-eqb, ne_eqb}
use Rattle.std.proofs.lemmas.Bool.Decides.{nat_tests}
use Rattle.std.specs.Prelude.{slice_index}
use Rattle.paging_model.specs.Memory.{Memory, byte_in}
use Rattle.block_pool.specs.Blocks.{block_with}
use Rattle.history_model.specs.History.{page_of, with_bytes}
use Rattle.std.specs.FinMap.{find}
use Rattle.std.specs.Ordering.{nat_cmp}
use Rattle.phys_view.specs.Seen.{Seen, memory_of, rewritten, written_page}
use Rattle.phys_view.specs.Writes.{HasKnown}
use Rattle.phys_view.proofs.BlockBytes.{block_with-before, block_with-within, block_with-after}

-- memory after a write, at a byte that is known or isn't
with_bytes-within : (memory : Memory) (bytes : List ℕ) (at a b : ℕ) → memory a ≡ Some b → at ≤ a → a < at + length bytes → with_bytes at bytes memory a ≡ Some (slice_index bytes (a - at))
with_bytes-within memory bytes at a b known from to = grind (arith, nat_tests)

with_bytes-before : (memory : Memory) (bytes : List ℕ) (at a : ℕ) → a < at → with_bytes at bytes memory a ≡ memory a
with_bytes-before memory bytes at a before = grind (arith, nat_tests)

with_bytes-after : (memory : Memory) (bytes : List ℕ) (at a : ℕ) → at + length bytes ≤ a → with_bytes at bytes memory a ≡ memory a
with_bytes-after memory bytes at a after = grind (arith, nat_tests)

with_bytes-unknown : (memory : Memory) (bytes : List ℕ) (at a : ℕ) → memory a ≡ None → with_bytes at bytes memory a ≡ memory a
with_bytes-unknown memory bytes at a unknown = rw unknown refl

-- a block has the known bytes of a page
pub record ShowsPage (memory : Memory) (page : ℕ) (block : List ℕ) : Type 0 where
  pub count : length block ≡ 4096
  pub each : (k b : ℕ) → k < 4096 → memory (page + k) ≡ Some b → slice_index block k ≡ b

-- the pages that are written are those from before, and the one of this number has this block
abbrev pub HasBlock : Seen → Seen → ℕ → List ℕ → Type 0
HasBlock old new n block = (q : ℕ) → find nat_cmp q new.written ≡ (if q == n then Some block else find nat_cmp q old.written)

memory_of-is : (seen : Seen) (a : ℕ) (page : Option (List ℕ)) → written_page seen a ≡ page → memory_of seen a ≡ option_map (rewritten page a) (byte_in seen.extents a)
memory_of-is seen a page is = rw is refl

page_of-within : (at k : ℕ) → k < 4096 → (page_of at + k) / 4096 ≡ at / 4096
page_of-within at k h = omega arith

offset-within : (at k : ℕ) → k < 4096 → (page_of at + k) % 4096 ≡ k
offset-within at k h = omega arith

byte-written : (byte : Option ℕ) (block : List ℕ) (a b : ℕ) → option_map (rewritten (Some block) a) byte ≡ Some b → slice_index block (a % 4096) ≡ b
byte-written None block a b known = absurd (cc)
byte-written (Some found) block a b known = cc

byte-unwritten : (byte : Option ℕ) (a b : ℕ) → option_map (rewritten None a) byte ≡ Some b → byte ≡ Some b
byte-unwritten None a b known = absurd (cc)
byte-unwritten (Some found) a b known = known

-- a written page's block shows it
pub shows-written : (seen : Seen) (at : ℕ) (block : List ℕ) → length block ≡ 4096 → written_page seen at ≡ Some block → ShowsPage (memory_of seen) (page_of at) block
shows-written seen at block count written = record {
  count = count;
  each = λ k b h known.
      let here = memory_of-is seen (page_of at + k) (Some block) (rw (page_of-within at k h) written) in
      ap (λ i. slice_index block i) (sym (offset-within at k h)) ∙ byte-written (byte_in seen.extents (page_of at + k)) block (page_of at + k) b (sym here ∙ known);
}

-- so does a block with the known bytes of the extents, where the page isn't written
pub shows-unwritten : (seen : Seen) (at : ℕ) (block : List ℕ) → length block ≡ 4096 → written_page seen at ≡ None
    → HasKnown seen.extents (page_of at) block → ShowsPage (memory_of seen) (page_of at) block
shows-unwritten seen at block count unwritten filled = record {
  count = count;
  each = λ k b h known.
      let here = memory_of-is seen (page_of at + k) None (rw (page_of-within at k h) unwritten) in
      filled k b h (byte-unwritten (byte_in seen.extents (page_of at + k)) (page_of at + k) b (sym here ∙ known));
}

elsewhere : (at n a : ℕ) → at % 4096 + n ≤ 4096 → a / 4096 ≢ at / 4096 → (a < at) ⊎ (at + n ≤ a)
elsewhere at n a within other = elim (cases_lt a at) [ inl below ↦ inl below | inr from ↦ inr (omega arith) ]

outside : (memory : Memory) (bytes : List ℕ) (at a : ℕ) → (a < at) ⊎ (at + length bytes ≤ a) → with_bytes at bytes memory a ≡ memory a
outside memory bytes at a (inl before) = with_bytes-before memory bytes at a before
outside memory bytes at a (inr after) = with_bytes-after memory bytes at a after

other_page : (old new : Seen) (a n : ℕ) (block : List ℕ) → new.extents ≡ old.extents → HasBlock old new n block → a / 4096 ≢ n → memory_of new a ≡ memory_of old a
other_page old new a n block extents has other =
    let pages : written_page new a ≡ written_page old a = has (a / 4096) ∙ cond-false (a / 4096 == n) _ _ (ne_eqb (a / 4096) n other) in
    memory_of-is new a (written_page old a) pages ∙ rw extents refl

same_page : (old new : Seen) (a n : ℕ) (block : List ℕ) → new.extents ≡ old.extents → HasBlock old new n block → a / 4096 ≡ n → memory_of new a ≡ option_map (rewritten (Some block) a) (byte_in old.extents a)
same_page old new a n block extents has same =
    let pages : written_page new a ≡ Some block = has (a / 4096) ∙ cond-true (a / 4096 == n) _ _ (eq-eqb (a / 4096) n same) in
    memory_of-is new a (Some block) pages ∙ rw extents refl

-- a known byte of the page, by where it stands in the block
in_block : (memory : Memory) (at a b : ℕ) (block bytes : List ℕ) → at % 4096 + length bytes ≤ 4096 → a / 4096 ≡ at / 4096 → ShowsPage memory (page_of at) block → memory a ≡ Some b
    → Some (slice_index (block_with block (at % 4096) bytes) (a % 4096)) ≡ with_bytes at bytes memory a
in_block memory at a b block bytes within same shows known =
    let count = shows.count in
    let fits : at % 4096 ≤ length block = omega arith in
    let here : page_of at + a % 4096 ≡ a = omega arith in
    let shown : slice_index block (a % 4096) ≡ b = shows.each (a % 4096) b (omega arith) (rw here known) in
    elim (cases_lt a at) [
      | inl before ↦
          ap Some (block_with-before block (at % 4096) bytes (a % 4096) fits (omega arith) ∙ shown) ∙ sym (with_bytes-before memory bytes at a before ∙ known)
      | inr from ↦ elim (cases_lt a (at + length bytes)) [
        | inl to ↦
            let place : a % 4096 - at % 4096 ≡ a - at = omega arith in
            ap Some (block_with-within block (at % 4096) bytes (a % 4096) fits (omega arith) (omega arith) ∙ ap (λ i. slice_index bytes i) place)
            ∙ sym (with_bytes-within memory bytes at a b known from to)
        | inr after ↦
            ap Some (block_with-after block (at % 4096) bytes (a % 4096) fits (omega arith) ∙ shown) ∙ sym (with_bytes-after memory bytes at a after ∙ known)
      ]
    ]

in_page : (memory : Memory) (at a : ℕ) (block bytes : List ℕ) (page : Option (List ℕ)) (byte : Option ℕ) → at % 4096 + length bytes ≤ 4096 → a / 4096 ≡ at / 4096 → ShowsPage memory (page_of at) block
    → memory a ≡ option_map (rewritten page a) byte → option_map (rewritten (Some (block_with block (at % 4096) bytes)) a) byte ≡ with_bytes at bytes memory a
in_page memory at a block bytes page None within same shows unknown = sym (with_bytes-unknown memory bytes at a unknown ∙ unknown)
in_page memory at a block bytes page (Some byte) within same shows known = in_block memory at a (rewritten page a byte) block bytes within same shows known

-- memory after a write is that before it with the bytes in their place
pub memory-written : (old new : Seen) (at : ℕ) (block bytes : List ℕ) → new.extents ≡ old.extents → at % 4096 + length bytes ≤ 4096 → ShowsPage (memory_of old) (page_of at) block
    → HasBlock old new (at / 4096) (block_with block (at % 4096) bytes) → (a : ℕ) → memory_of new a ≡ with_bytes at bytes (memory_of old) a
memory-written old new at block bytes extents within shows has a = elim (cases_eq (a / 4096) (at / 4096)) [
  | inl same ↦
      same_page old new a (at / 4096) _ extents has same
      ∙ in_page (memory_of old) at a block bytes (written_page old a) (byte_in old.extents a) within same shows refl
  | inr other ↦ other_page old new a (at / 4096) _ extents has other ∙ sym (outside (memory_of old) bytes at a (elsewhere at (length bytes) a within other))
]
