-- Stretches of memory from an address up to an end.
use Rattle.std.proofs.Common.{◌≡◌, ℕ, zero, suc, ◌+◌, ◌-◌, ◌<◌, ◌≤◌, inl, inr, List, [], ◌∷◌, length, take, drop, get_or, min, max, Option, Some, None, option_map, Bool, true, false, if◌then◌else◌, refl, sym, ◌∙◌, ap, arith}
use Rattle.std.specs.Prelude.{All, slice_index}
use Rattle.std.proofs.lemmas.Bool.{cases_lt}
use Rattle.std.proofs.lemmas.Bool.Decides.{nat_tests}
use Rattle.std.proofs.lemmas.List.{length-take, length-drop, get_or-take, get_or-drop, take_rest, get_or-map, length-map}
use Rattle.paging_model.specs.Memory.{Extent, IsPlaced, covers, byte_in}
use Rattle.elf_core.specs.Extents.{extent, extents}
use Rattle.elf_core.specs.declared.segment.Segment.{Segment}
use Rattle.elf_core.specs.Covering.{first_covering, IsCoveredRun, IsUnknownRun}
use Rattle.elf_core.specs.Changes.{StaysUntil}

-- the extent of an index is the first that covers an address
record IsFirst (extents : List Extent) (e : Extent) (i a : ℕ) : Type 0 where
  within : i < length extents
  from : e.start ≤ a
  below : a < e.start + length e.bytes
  byte : byte_in extents a ≡ Some (slice_index e.bytes (a - e.start))

first-here : (e : Extent) (rest : List Extent) (a i : ℕ) (d : Extent) → covers e a ≡ true → Some 0 ≡ Some i → IsFirst (e ∷ rest) (get_or (e ∷ rest) i d) i a
first-here e rest a zero d covered is = record {
  within = omega arith;
  from = grind (arith, nat_tests);
  below = grind (arith, nat_tests);
  byte = rw covered refl;
}
first-here e rest a (suc i) d covered is = absurd cc

first-later : (e : Extent) (rest : List Extent) (a i : ℕ) (d : Extent) → covers e a ≡ false → IsFirst rest (get_or rest i d) i a → IsFirst (e ∷ rest) (get_or rest i d) (suc i) a
first-later e rest a i d uncovered first = record {
  within = omega (arith, first.within);
  from = first.from;
  below = first.below;
  byte = rw uncovered first.byte;
}

index_of_suc : (found : Option ℕ) (i : ℕ) → option_map suc found ≡ Some i → (j : ℕ) × (i ≡ suc j) × (found ≡ Some j)
index_of_suc None i is = absurd cc
index_of_suc (Some j) i is = (j, cc, refl)

first-either : (e : Extent) (rest : List Extent) (a i : ℕ) (d : Extent) (covered : Bool) → covers e a ≡ covered → (if covered then Some 0 else option_map suc (first_covering rest a)) ≡ Some i → ((j : ℕ) → first_covering rest a ≡ Some j → IsFirst rest (get_or rest j d) j a) → IsFirst (e ∷ rest) (get_or (e ∷ rest) i d) i a
first-either e rest a i d true covered is later = first-here e rest a i d covered is
first-either e rest a i d false uncovered is later =
    let there = index_of_suc (first_covering rest a) i is in
    rw there.1 (first-later e rest a there.0 d uncovered (later there.0 there.2))

first_is : (extents : List Extent) (a i : ℕ) (d : Extent) → first_covering extents a ≡ Some i → IsFirst extents (get_or extents i d) i a
first_is [] a i d is = absurd cc
first_is (e ∷ rest) a i d is = first-either e rest a i d (covers e a) refl is (λ j. first_is rest a j d)

no_suc : (found : Option ℕ) → option_map suc found ≡ None → found ≡ None
no_suc None is = refl
no_suc (Some j) is = absurd cc

no-either : (found byte : Option ℕ) (n : ℕ) (covered : Bool) → (if covered then Some 0 else option_map suc found) ≡ None → (found ≡ None → byte ≡ None) → (if covered then Some n else byte) ≡ None
no-either found byte n true is later = absurd cc
no-either found byte n false is later = later (no_suc found is)

none_covers : (extents : List Extent) (a : ℕ) → first_covering extents a ≡ None → byte_in extents a ≡ None
none_covers [] a is = refl
none_covers (e ∷ rest) a is = no-either (first_covering rest a) (byte_in rest a) (slice_index e.bytes (a - e.start)) (covers e a) is (none_covers rest a)

-- as many bytes of the extent as there are up to the end
run_of_first : (extents : List Extent) (e d : Extent) (i at end n : ℕ) → get_or extents i d ≡ e → All IsPlaced extents → StaysUntil (first_covering extents) at end (Some i) → n ≡ min (length e.bytes - (at - e.start)) (end - at) → IsCoveredRun extents at (take n (drop (at - e.start) e.bytes))
run_of_first extents e d i at end n is placed stay count =
    let covers_at : (a : ℕ) → first_covering extents a ≡ Some i → IsFirst extents e i a = λ a first. rw is at (first_is extents a i d first) in
    let found = covers_at at stay.here in
    let fits : IsPlaced e = rw is at (placed i d found.within) in
    let bytes : length (take n (drop (at - e.start) e.bytes)) ≡ n = grind (arith, length-take, length-drop) in
    let further : at < end = elim stay.ends [
      | inl all ↦ omega (arith, found.below, fits.below)
      | inr other ↦ elim (cases_lt at end) [
        | inl lt ↦ lt
        | inr ge ↦ let same : at ≡ end = omega (arith, stay.ahead) in absurd (other (rw same at stay.here))
      ]
    ] in
    record {
      index = i;
      some = rw bytes (omega (arith, found.from, found.below));
      below = rw bytes (omega (arith, found.from, found.below, fits.below));
      first = λ k h. let near : k < n = rw bytes at h in stay.stays (at + k) (omega arith) (omega arith);
      ends = rw bytes (λ first.
          let still = covers_at (at + n) first in
          let cut : at + n ≡ end = omega (arith, still.below, found.from, found.below) in
          elim stay.ends [ inl all ↦ omega (arith, still.below, fits.below) | inr other ↦ other (rw cut at first) ]);
      each = λ k h.
          let near : k < n = rw bytes at h in
          let moved : at - e.start + k ≡ at + k - e.start = omega (arith, found.from) in
          let byte = get_or-take n (drop (at - e.start) e.bytes) k 0 near ∙ get_or-drop (at - e.start) e.bytes k 0 ∙ ap (slice_index e.bytes) moved in
          (covers_at (at + k) (stay.stays (at + k) (omega arith) (omega arith))).byte ∙ ap Some (sym byte);
    }

-- nothing is known up to the end
pub run_of_none : (extents : List Extent) (at end : ℕ) → StaysUntil (first_covering extents) at end None → IsUnknownRun extents at (max (end - at) 1)
run_of_none extents at end stay = record {
  some = omega arith;
  each = λ k h. elim (cases_lt (at + k) end) [
    | inl before ↦ none_covers extents (at + k) (stay.stays (at + k) (omega arith) before)
    | inr past ↦
        let none : at + k ≡ at = omega arith in
        rw none (none_covers extents at stay.here)
  ];
}

-- the segment is there, and the address lies in it
pub stay-within : (segments : List Segment) (i at end : ℕ) → StaysUntil (first_covering (extents segments)) at end (Some i) → i < length segments
stay-within segments i at end stay = omega (arith, (first_is (extents segments) at i (record { start = 0; bytes = [] }) stay.here).within, length-map segments extent)

pub stay-around : (segments : List Segment) (d : Segment) (i at end : ℕ) → StaysUntil (first_covering (extents segments)) at end (Some i) → ((get_or segments i d).phys ≤ at) × (at - (get_or segments i d).phys ≤ length (get_or segments i d).bytes.now)
stay-around segments d i at end stay =
    let same = get_or-map extent segments i d (extent d) (stay-within segments i at end stay) in
    let here : IsFirst (extents segments) (extent (get_or segments i d)) i at = rw same at (first_is (extents segments) at i (extent d) stay.here) in
    (here.from, omega (arith, here.from, here.below))

-- the same of segments, and of the bytes that are cut from one
pub run_of_segment : (segments : List Segment) (d : Segment) (i at end n : ℕ) → All IsPlaced (extents segments) → StaysUntil (first_covering (extents segments)) at end (Some i)
    → n ≡ min (length (take (length (get_or segments i d).bytes.now - (at - (get_or segments i d).phys)) (drop (at - (get_or segments i d).phys) (get_or segments i d).bytes.now))) (end - at)
    → IsCoveredRun (extents segments) at (take n (take (length (get_or segments i d).bytes.now - (at - (get_or segments i d).phys)) (drop (at - (get_or segments i d).phys) (get_or segments i d).bytes.now)))
run_of_segment segments d i at end n placed stay count =
    let s = get_or segments i d in
    let all = take_rest s.bytes.now (at - s.phys) in
    let counted : n ≡ min (length s.bytes.now - (at - s.phys)) (end - at) = rw (all, length-drop) at count in
    rw all (run_of_first (extents segments) (extent s) (extent d) i at end n (get_or-map extent segments i d (extent d) (stay-within segments i at end stay)) placed stay counted)
