-- The bytes of a block after others were put into it, and a block that is filled with the known bytes of a page.
use Rattle.std.proofs.Common.{◌≡◌, ℕ, ◌+◌, ◌-◌, ◌<◌, ◌≤◌, inl, inr, List, ◌++◌, length, take, drop, min, Some, None, refl, sym, ◌∙◌, ap, arith}
use Rattle.std.proofs.Math.Seq.{get_or-append_right}
use Rattle.std.proofs.lemmas.Bool.{cases_lt}
use Rattle.std.proofs.lemmas.List.{get_or_append_left, get_or-take, get_or-drop, length-append, length-take, length-drop}
use Rattle.std.specs.Prelude.{slice_index}
use Rattle.block_pool.specs.Blocks.{block_with}
use Rattle.paging_model.specs.Memory.{Extent, byte_in}
use Rattle.elf_core.specs.Covering.{IsCoveredRun, IsUnknownRun}
use Rattle.phys_view.specs.Writes.{HasKnown}

pub length-block_with : (old : List ℕ) (at : ℕ) (new : List ℕ) → at + length new ≤ length old → length (block_with old at new) ≡ length old
length-block_with old at new within = grind (arith, length-append, length-take, length-drop)

taken : (old : List ℕ) (at : ℕ) → at ≤ length old → length (take at old) ≡ at
taken old at within = grind (arith, length-take)

sized : (old : List ℕ) (at : ℕ) (new : List ℕ) → at ≤ length old → length (take at old ++ new) ≡ at + length new
sized old at new within = length-append (take at old) new ∙ ap (λ n. n + length new) (taken old at within)

pub block_with-before : (old : List ℕ) (at : ℕ) (new : List ℕ) (k : ℕ) → at ≤ length old → k < at
    → slice_index (block_with old at new) k ≡ slice_index old k
block_with-before old at new k within before =
    get_or_append_left (take at old ++ new) (drop (at + length new) old) 0 k (rw (sized old at new within) (omega arith))
    ∙ get_or_append_left (take at old) new 0 k (rw (taken old at within) before) ∙ get_or-take at old k 0 before

pub block_with-within : (old : List ℕ) (at : ℕ) (new : List ℕ) (k : ℕ) → at ≤ length old → at ≤ k → k < at + length new
    → slice_index (block_with old at new) k ≡ slice_index new (k - at)
block_with-within old at new k within from below =
    get_or_append_left (take at old ++ new) (drop (at + length new) old) 0 k (rw (sized old at new within) below)
    ∙ get_or-append_right (take at old) new k 0 (rw (taken old at within) from) ∙ rw (taken old at within) refl

pub block_with-after : (old : List ℕ) (at : ℕ) (new : List ℕ) (k : ℕ) → at ≤ length old → at + length new ≤ k
    → slice_index (block_with old at new) k ≡ slice_index old k
block_with-after old at new k within after =
    get_or-append_right (take at old ++ new) (drop (at + length new) old) k 0 (rw (sized old at new within) after)
    ∙ rw (sized old at new within) (get_or-drop (at + length new) old (k - (at + length new)) 0 ∙ ap (slice_index old) (omega arith))

-- the block has the known bytes of the page up to an offset
pub record IsFilled (extents : List Extent) (page offset : ℕ) (bytes : List ℕ) : Type 0 where
  pub within : offset ≤ 4096
  pub long : length bytes ≡ 4096
  pub known : (k v : ℕ) → k < offset → byte_in extents (page + k) ≡ Some v → slice_index bytes k ≡ v

pub filled-none : (extents : List Extent) (page : ℕ) (bytes : List ℕ) → length bytes ≡ 4096 → IsFilled extents page 0 bytes
filled-none extents page bytes long = record { within = omega arith; long = long; known = λ k v h is. absurd (omega arith) }

some_is : (v w : ℕ) → Some v ≡ Some w → v ≡ w
some_is v w same = grind arith

pub filled-known : (extents : List Extent) (page offset n : ℕ) (bytes run new : List ℕ) → IsFilled extents page offset bytes
    → IsCoveredRun extents (page + offset) run → n ≡ min (length run) (4096 - offset) → new ≡ block_with bytes offset (take n run)
    → IsFilled extents page (offset + n) new
filled-known extents page offset n bytes run new was covered count is =
    let within = was.within in
    let long = was.long in
    let size : length (take n run) ≡ n = grind (arith, length-take) in
    rw is (record {
      within = grind arith;
      long = length-block_with bytes offset (take n run) (grind arith) ∙ was.long;
      known = λ k v less byte. elim (cases_lt k offset) [
        | inl before ↦ block_with-before bytes offset (take n run) k (omega arith) before ∙ was.known k v before byte
        | inr from ↦
            let few : k - offset < n = omega arith in
            let same : page + offset + (k - offset) ≡ page + k = omega arith in
            let here = rw same at (covered.each (k - offset) (grind arith)) in
            block_with-within bytes offset (take n run) k (omega arith) from (rw size (omega arith))
            ∙ get_or-take n run (k - offset) 0 few ∙ some_is _ _ (sym here ∙ byte)
      ];
    })

pub filled-unknown : (extents : List Extent) (page offset n count : ℕ) (bytes : List ℕ) → IsFilled extents page offset bytes
    → IsUnknownRun extents (page + offset) count → n ≡ min count (4096 - offset) → IsFilled extents page (offset + n) bytes
filled-unknown extents page offset n count bytes was unknown is =
    let within = was.within in
    record {
      within = grind arith;
      long = was.long;
      known = λ k v less byte. elim (cases_lt k offset) [
        | inl before ↦ was.known k v before byte
        | inr from ↦
            let same : page + offset + (k - offset) ≡ page + k = omega arith in
            let none = rw same at (unknown.each (k - offset) (grind arith)) in
            let both : None ≡ Some v = sym none ∙ byte in
            absurd (grind arith)
      ];
    }

pub filled-all : (extents : List Extent) (page offset : ℕ) (bytes : List ℕ) → IsFilled extents page offset bytes → 4096 ≤ offset → HasKnown extents page bytes
filled-all extents page offset bytes was all = λ k v less byte. was.known k v (omega arith) byte
