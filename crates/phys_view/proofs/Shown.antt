-- The bytes that a view shows in a page, by the stretch of memory that they stand in.
use Rattle.std.proofs.Common.{◌≡◌, ℕ, ◌+◌, ◌/◌, ◌%◌, ◌<◌, ◌≤◌, inl, Bor, true, List, length, take, drop, Option, Some, None, option_map, is_some, refl, sym, ◌∙◌, ap, arith}
use Rattle.std.proofs.lemmas.List.{get_or-drop, get_or-take, length-take}
use Rattle.std.specs.Prelude.{slice_index, option_copied}
use Rattle.std.specs.Option.{unwrap_or}
use Rattle.paging_model.specs.Memory.{byte_in}
use Rattle.elf_core.specs.Covering.{IsCoveredRun}
use Rattle.history_model.specs.Refusals.{first_unknown}
use Rattle.phys_view.specs.Ranges.{StandAt, IsTogether}
use Rattle.phys_view.proofs.Known.{known-all}
use Rattle.phys_view.specs.Seen.{Seen, bytes_from, written_page, memory_of, rewritten}

same_page : (a k : ℕ) → a % 4096 + k < 4096 → (a + k) / 4096 ≡ a / 4096
same_page a k within = omega arith

place_in_page : (a k : ℕ) → a % 4096 + k < 4096 → (a + k) % 4096 ≡ a % 4096 + k
place_in_page a k within = omega arith

-- where the page wasn't written to
rewritten-none : (page : Option (List ℕ)) (a b byte : ℕ) → None ≡ bytes_from page a → rewritten page b byte ≡ byte
rewritten-none None a b byte none = refl
rewritten-none (Some bytes) a b byte none = absurd (grind arith)

-- where it was
rewritten-some : (page : Option (List ℕ)) (a k byte : ℕ) (bytes : List ℕ) → Some bytes ≡ bytes_from page a → a % 4096 + k < 4096
    → rewritten page (a + k) byte ≡ slice_index bytes k
rewritten-some None a k byte bytes some within = absurd (grind arith)
rewritten-some (Some page) a k byte bytes some within =
    let same : bytes ≡ drop (a % 4096) page = grind arith in
    rw (same, place_in_page a k within) (sym (get_or-drop (a % 4096) page k 0))

shown : (seen : Seen) (a k byte : ℕ) → a % 4096 + k < 4096 → byte_in seen.extents (a + k) ≡ Some byte
    → memory_of seen (a + k) ≡ Some (rewritten (written_page seen a) (a + k) byte)
shown seen a k byte within is = rw (is, same_page a k within) refl

pub shown-unwritten : (seen : Seen) (a k : ℕ) (run : List ℕ) → None ≡ bytes_from (written_page seen a) a
    → IsCoveredRun seen.extents a run → k < length run → a % 4096 + k < 4096 → memory_of seen (a + k) ≡ Some (slice_index run k)
shown-unwritten seen a k run none covered known within =
    shown seen a k (slice_index run k) within (covered.each k known) ∙ ap Some (rewritten-none (written_page seen a) a (a + k) (slice_index run k) none)

pub shown-written : (seen : Seen) (a k byte : ℕ) (bytes : List ℕ) → Some bytes ≡ bytes_from (written_page seen a) a
    → byte_in seen.extents (a + k) ≡ Some byte → a % 4096 + k < 4096 → memory_of seen (a + k) ≡ Some (slice_index bytes k)
shown-written seen a k byte bytes some known within =
    shown seen a k byte within known ∙ ap Some (rewritten-some (written_page seen a) a k byte bytes some within)

-- the bytes that stand in the page, where it was written to, else those of the stretch
pub shown-chosen : (seen : Seen) (a k : ℕ) (found : Option (Bor (List ℕ))) (run : Bor (List ℕ))
    → option_copied found ≡ bytes_from (written_page seen a) a → IsCoveredRun seen.extents a run.now
    → k < length run.now → a % 4096 + k < 4096 → memory_of seen (a + k) ≡ Some (slice_index (unwrap_or found run).now k)
shown-chosen seen a k None run none covered known within = shown-unwritten seen a k run.now none covered known within
shown-chosen seen a k (Some bytes) run some covered known within =
    shown-written seen a k (slice_index run.now k) bytes.now some (covered.each k known) within

pub written-together : (seen : Seen) (a n : ℕ) (bytes : List ℕ) → Some bytes ≡ bytes_from (written_page seen a) a
    → None ≡ first_unknown (memory_of seen) a n → IsTogether seen a n
written-together seen a n bytes some none = inl (record {
  written = page_is (written_page seen a) some;
  known = λ k within. known-all (memory_of seen) a n k (sym none) within;
})
  where
    page_is : (page : Option (List ℕ)) → Some bytes ≡ bytes_from page a → is_some page ≡ true
    page_is None some = absurd (grind arith)
    page_is (Some page) some = refl

byte-of : (seen : Seen) (a : ℕ) → is_some (memory_of seen a) ≡ true → (byte : ℕ) × (byte_in seen.extents a ≡ Some byte)
byte-of seen a known = go (byte_in seen.extents a) known
  where
    go : (found : Option ℕ) → is_some (option_map (rewritten (written_page seen a) a) found) ≡ true → (byte : ℕ) × (found ≡ Some byte)
    go None known = absurd (grind arith)
    go (Some byte) known = (byte, refl)

pub written-stand : (seen : Seen) (a n : ℕ) (bytes : List ℕ) → Some bytes ≡ bytes_from (written_page seen a) a
    → None ≡ first_unknown (memory_of seen) a n → n ≤ length bytes → a % 4096 + n ≤ 4096 → StandAt (memory_of seen) a n (take n bytes)
written-stand seen a n bytes some none long within = record {
  count = grind (arith, length-take);
  each = λ k less.
      let byte = byte-of seen (a + k) (known-all (memory_of seen) a n k (sym none) less) in
      shown-written seen a k byte.0 bytes some byte.1 (omega arith) ∙ ap Some (sym (get_or-take n bytes k 0 less));
}
