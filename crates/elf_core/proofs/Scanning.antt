-- What a look at one extent after the other has found: which counts from an address on, up to an end.
use Rattle.std.proofs.Common.{◌≡◌, ◌≢◌, ℕ, zero, suc, ◌+◌, ◌-◌, ◌^◌, ◌<◌, ◌≤◌, ◌⊎◌, inl, inr, List, [], ◌∷◌, All, length, get_or, take, drop, min, max, Option, Some, None, option_map, true, false, refl, sym, ◌∙◌, ap, arith}
use Rattle.std.proofs.Math.Seq.{take-length}
use Rattle.std.proofs.lemmas.Bool.{cases_lt}
use Rattle.std.proofs.lemmas.Bool.Decides.{nat_tests}
use Rattle.std.proofs.lemmas.List.{drop_more, get_or-take, get_or-drop, length-take, length-drop}
use Rattle.elf_core.specs.declared.segment.Segment.{Segment}
use Rattle.elf_core.specs.Extents.{extent, extents}
use Rattle.std.specs.Prelude.{slice_index}
use Rattle.paging_model.specs.Memory.{Extent, IsPlaced, covers, byte_in}
use Rattle.elf_core.specs.Covering.{first_covering, IsCoveredRun, IsUnknownRun}

-- the extents that a loop over the segments has before it
pub extents-drop : (segments : List Segment) (i : ℕ) (d : Segment) → i < length segments
    → extents (drop i segments) ≡ extent (get_or segments i d) ∷ extents (drop (i + 1) segments)
extents-drop segments i d within = ap extents (drop_more segments i d within)

pub placed_at : (segments : List Segment) (i : ℕ) (d : Segment) → i < length segments → All IsPlaced (extents segments) → IsPlaced (extent (get_or segments i d))
placed_at [] i d within placed = absurd (omega arith)
placed_at (s ∷ rest) zero d within placed = placed 0 (extent s) (omega arith)
placed_at (s ∷ rest) (suc i) d within placed = placed_at rest i d (omega arith) (λ k e h. placed (suc k) e (omega arith))

pub covers-within : (e : Extent) (a : ℕ) → e.start ≤ a → a < e.start + length e.bytes → covers e a ≡ true
covers-within e a from below = grind (arith, nat_tests)

pub covers-before : (e : Extent) (a : ℕ) → a < e.start → covers e a ≡ false
covers-before e a before = grind (arith, nat_tests)

pub covers-after : (e : Extent) (a : ℕ) → e.start + length e.bytes ≤ a → covers e a ≡ false
covers-after e a after = grind (arith, nat_tests)

-- an index in what is left of a list, as one in the whole list
abbrev index_after : ℕ → Option ℕ → Option ℕ
index_after i None = None
index_after i (Some k) = Some (i + k)

index_after-none : (found : Option ℕ) → index_after 0 found ≡ found
index_after-none None = refl
index_after-none (Some k) = ap Some (omega arith)

index_after-suc : (i : ℕ) (found : Option ℕ) → index_after i (option_map suc found) ≡ index_after (i + 1) found
index_after-suc i None = refl
index_after-suc i (Some k) = ap Some (omega arith)

index_after-other : (i : ℕ) (found : Option ℕ) → index_after (i + 1) found ≢ Some i
index_after-other i None h = grind arith
index_after-other i (Some k) h = grind arith

-- after so many extents of a list: from the address to the end none of them covers; at the end one of them does, if it
-- isn't the end of all numbers
pub record IsScanned (whole left : List Extent) (at end i : ℕ) : Type 0 where
  pub near : at ≤ end
  pub first : (a : ℕ) → at ≤ a → a < end → first_covering whole a ≡ index_after i (first_covering left a)
  pub bytes : (a : ℕ) → at ≤ a → a < end → byte_in whole a ≡ byte_in left a
  pub bound : (end ≡ 18446744073709551615) ⊎ ((at < end) × (j : ℕ) × (j < i) × (first_covering whole end ≡ Some j))

pub scanned-begin : (whole : List Extent) (at : ℕ) → at ≤ 18446744073709551615 → IsScanned whole whole at 18446744073709551615 0
scanned-begin whole at most = record {
  near = most;
  first = λ a from below. sym (index_after-none (first_covering whole a));
  bytes = λ a from below. refl;
  bound = inl refl;
}

first-skip : (e : Extent) (rest : List Extent) (i a : ℕ) → covers e a ≡ false → index_after i (first_covering (e ∷ rest) a) ≡ index_after (i + 1) (first_covering rest a)
first-skip e rest i a uncovered = rw uncovered (index_after-suc i (first_covering rest a))

byte-skip : (e : Extent) (rest : List Extent) (a : ℕ) → covers e a ≡ false → byte_in (e ∷ rest) a ≡ byte_in rest a
byte-skip e rest a uncovered = rw uncovered refl

-- an extent that ends before the address
pub scanned-before : (whole rest : List Extent) (e : Extent) (at end i : ℕ) → e.start + length e.bytes ≤ at → IsScanned whole (e ∷ rest) at end i → IsScanned whole rest at end (i + 1)
scanned-before whole rest e at end i before was = record {
  near = was.near;
  first = λ a from below. was.first a from below ∙ first-skip e rest i a (covers-after e a (omega arith));
  bytes = λ a from below. was.bytes a from below ∙ byte-skip e rest a (covers-after e a (omega arith));
  bound = elim was.bound [ inl all ↦ inl all | inr one ↦ inr (one.0, one.1, omega arith, one.3) ];
}

-- an extent that begins after the address
pub scanned-after : (whole rest : List Extent) (e : Extent) (at end i : ℕ) → IsPlaced e → at < e.start → IsScanned whole (e ∷ rest) at end i → IsScanned whole rest at (min end e.start) (i + 1)
scanned-after whole rest e at end i placed after was = elim (cases_lt e.start end) [
  | inr later ↦
      let same : min end e.start ≡ end = grind arith in
      rw same (record {
        near = was.near;
        first = λ a from below. was.first a from below ∙ first-skip e rest i a (covers-before e a (omega arith));
        bytes = λ a from below. was.bytes a from below ∙ byte-skip e rest a (covers-before e a (omega arith));
        bound = elim was.bound [ inl all ↦ inl all | inr one ↦ inr (one.0, one.1, omega arith, one.3) ];
      })
  | inl sooner ↦
      let same : min end e.start ≡ e.start = grind arith in
      rw same (record {
        near = omega arith;
        first = λ a from below. was.first a from (omega arith) ∙ first-skip e rest i a (covers-before e a below);
        bytes = λ a from below. was.bytes a from (omega arith) ∙ byte-skip e rest a (covers-before e a below);
        bound = inr (after, i, omega arith, was.first e.start (omega arith) sooner ∙ rw (covers-within e e.start (omega arith) (omega (arith, placed.some))) (ap Some (omega arith)));
      })
]

some-same : (i j : ℕ) → Some i ≡ Some j → i ≡ j
some-same i j h = grind arith

-- at the end of what the extent is the first to cover, it isn't the first that covers
end-other : (whole rest : List Extent) (e : Extent) (at end i stop : ℕ) → IsPlaced e → at ≤ stop → stop ≤ end
    → stop ≤ e.start + length e.bytes → (stop ≡ end) ⊎ (stop ≡ e.start + length e.bytes)
    → IsScanned whole (e ∷ rest) at end i → first_covering whole stop ≢ Some i
end-other whole rest e at end i stop placed from up_to within is was found = elim (cases_lt stop end) [
  | inl sooner ↦
      let last : e.start + length e.bytes ≤ stop = elim is [ inl at_end ↦ omega arith | inr after ↦ omega arith ] in
      let here = sym (first-skip e rest i stop (covers-after e stop last)) in
      index_after-other i (first_covering rest stop) (here ∙ sym (was.first stop from sooner) ∙ found)
  | inr later ↦
      let same : stop ≡ end = omega arith in
      elim was.bound [
        | inl all ↦ omega (arith, placed.below)
        | inr one ↦
            let other : Some one.1 ≡ Some i = sym one.3 ∙ rw (sym same) found in
            omega (arith, some-same one.1 i other, one.2)
      ]
]

-- an address past the greatest physical width
unplaced : (all : List Extent) (a : ℕ) → All IsPlaced all → 2 ^ 52 ≤ a → byte_in all a ≡ None
unplaced [] a placed past = refl
unplaced (e ∷ rest) a placed past =
    byte-skip e rest a (covers-after e a (omega (arith, (placed 0 e (omega arith)).below))) ∙ unplaced rest a (λ k e h. placed (suc k) e (omega arith)) past

-- an extent that covers the address
pub scanned-found : (whole rest : List Extent) (e : Extent) (at end i n : ℕ) → IsPlaced e → e.start ≤ at
    → at < e.start + length e.bytes → n ≡ min (e.start + length e.bytes - at) (end - at)
    → IsScanned whole (e ∷ rest) at end i → IsCoveredRun whole at (take n (drop (at - e.start) e.bytes))
scanned-found whole rest e at end i n placed from below is was =
    let ahead : at < end = elim was.bound [ inl all ↦ omega (arith, placed.below) | inr one ↦ one.0 ] in
    let count : length (take n (drop (at - e.start) e.bytes)) ≡ n = grind (arith, length-take, length-drop) in
    let short : at + n ≤ end = grind arith in
    let inside : at + n ≤ e.start + length e.bytes = grind arith in
    let stops : (at + n ≡ end) ⊎ (at + n ≡ e.start + length e.bytes) =
    elim (cases_lt end (e.start + length e.bytes)) [ inl cut ↦ inl (grind arith) | inr whole_one ↦ inr (grind arith) ] in
    record {
      index = i;
      some = rw count (grind arith);
      below = rw count (omega (arith, placed.below));
      first = λ k h.
          let near : k < n = rw count at h in
          was.first (at + k) (omega arith) (omega arith) ∙ rw (covers-within e (at + k) (omega arith) (omega arith)) (ap Some (omega arith));
      ends = rw count (end-other whole rest e at end i (at + n) placed (omega arith) short inside stops was);
      each = λ k h.
          let near : k < n = rw count at h in
          let byte : slice_index (take n (drop (at - e.start) e.bytes)) k ≡ slice_index e.bytes (at + k - e.start) =
          get_or-take n (drop (at - e.start) e.bytes) k 0 near ∙ get_or-drop (at - e.start) e.bytes k 0 ∙ ap (slice_index e.bytes) (omega arith) in
          was.bytes (at + k) (omega arith) (omega arith) ∙ rw (covers-within e (at + k) (omega arith) (omega arith)) (ap Some (sym byte));
    }

-- no extent that covers the address
pub scanned-none : (whole : List Extent) (at end i : ℕ) → at ≤ 18446744073709551615 → IsScanned whole [] at end i → All IsPlaced whole → IsUnknownRun whole at (max (end - at) 1)
scanned-none whole at end i most was placed = record {
  some = grind arith;
  each = λ k h. elim (cases_lt (at + k) end) [
    | inl sooner ↦ was.bytes (at + k) (omega arith) sooner
    | inr later ↦ unplaced whole (at + k) placed (elim was.bound [ inl all ↦ grind arith | inr one ↦ absurd (grind (arith, one.0)) ])
  ];
}

-- the same, of the bytes that are cut from the extent's
pub scanned-cut : (whole left rest : List Extent) (e : Extent) (at end i n : ℕ) → left ≡ e ∷ rest → IsPlaced e → e.start ≤ at
    → at - e.start < length e.bytes
    → n ≡ min (length (take (length e.bytes - (at - e.start)) (drop (at - e.start) e.bytes))) (end - at)
    → IsScanned whole left at end i
    → IsCoveredRun whole at (take n (take (length e.bytes - (at - e.start)) (drop (at - e.start) e.bytes)))
scanned-cut whole left rest e at end i n is placed from below count was =
    let all : take (length e.bytes - (at - e.start)) (drop (at - e.start) e.bytes) ≡ drop (at - e.start) e.bytes =
    rw (sym (length-drop (at - e.start) e.bytes)) (take-length (drop (at - e.start) e.bytes)) in
    let counted : n ≡ min (e.start + length e.bytes - at) (end - at) =
    (rw all at count) ∙ ap (λ m. min m (end - at)) (length-drop (at - e.start) e.bytes ∙ omega arith) in
    rw all (scanned-found whole rest e at end i n placed from (omega arith) counted (rw is at was))
