-- The changes of few segments, and those of more by the changes of both halves.
use Rattle.std.proofs.Common.{◌≡◌, ℕ, suc, ◌+◌, ◌-◌, ◌<◌, ◌≤◌, List, [], ◌∷◌, ◌++◌, length, take, drop, get_or, Option, Some, None, option_map, Bool, true, false, if◌then◌else◌, refl, sym, ◌∙◌, ap, arith}
use Rattle.std.specs.Option.{option_or}
use Rattle.std.specs.Prelude.{All}
use Rattle.std.proofs.lemmas.List.{map-append, take-append-drop, length-map, length-take-le, take_rest, take-map, drop-map}
use Rattle.std.proofs.lemmas.List.Elements.{All-take, All-drop}
use Rattle.paging_model.specs.Memory.{Extent, IsPlaced, covers}
use Rattle.elf_core.specs.Covering.{first_covering}
use Rattle.elf_core.specs.Changes.{owner_at, AreChanges}
use Rattle.elf_core.specs.Extents.{extent, extents}
use Rattle.elf_core.specs.declared.segment.Segment.{Segment}
use Rattle.elf_core.specs.declared.changes.Change.{Change}

-- the first of extents to cover an address, if they come after so many others
abbrev pub first_from_index : ℕ → List Extent → ℕ → Option ℕ
first_from_index index extents a = option_map (λ k. index + k) (first_covering extents a)

next_index : (index : ℕ) (found : Option ℕ) → option_map (λ k. index + k) (option_map suc found) ≡ option_map (λ k. index + 1 + k) found
next_index index None = refl
next_index index (Some k) = ap Some (omega arith)

same_index : (index other : ℕ) (found : Option ℕ) → index ≡ other → option_map (λ k. index + k) found ≡ option_map (λ k. other + k) found
same_index index other None same = refl
same_index index other (Some k) same = ap Some (omega arith)

covered_or : (e : Extent) (xs ys : List Extent) (index a : ℕ) (covered : Bool) → first_from_index (index + 1) (xs ++ ys) a ≡ option_or (first_from_index (index + 1) xs a) (first_from_index (index + suc (length xs)) ys a) → option_map (λ k. index + k) (if covered then Some 0 else option_map suc (first_covering (xs ++ ys) a)) ≡ option_or (option_map (λ k. index + k) (if covered then Some 0 else option_map suc (first_covering xs a))) (first_from_index (index + suc (length xs)) ys a)
covered_or e xs ys index a true later = refl
covered_or e xs ys index a false later = rw (next_index index (first_covering (xs ++ ys) a), next_index index (first_covering xs a)) later

pub first_covering-append : (xs ys : List Extent) (index a : ℕ) → first_from_index index (xs ++ ys) a ≡ option_or (first_from_index index xs a) (first_from_index (index + length xs) ys a)
first_covering-append [] ys index a = same_index index (index + 0) (first_covering ys a) (omega arith)
first_covering-append (e ∷ xs) ys index a =
    let moved = same_index (index + 1 + length xs) (index + suc (length xs)) (first_covering ys a) (omega arith) in
    covered_or e xs ys index a (covers e a) (first_covering-append xs ys (index + 1) a ∙ ap (λ of_right. option_or (first_from_index (index + 1) xs a) of_right) moved)

-- both halves
pub changes_of_halves : (xs ys : List Extent) (index : ℕ) (first second changes : List Change) → AreChanges (first_from_index index xs) first → AreChanges (first_from_index (index + length xs) ys) second → AreChanges (λ a. option_or (owner_at first a) (owner_at second a)) changes → AreChanges (first_from_index index (xs ++ ys)) changes
changes_of_halves xs ys index first second changes of_first of_second merged = record {
  ascends = merged.ascends;
  owners = λ a. merged.owners a ∙ rw (of_first.owners a, of_second.owners a) (sym (first_covering-append xs ys index a));
}

-- so for a list of segments, cut in the middle
pub changes_of_cut : (segments : List Segment) (middle index : ℕ) (first second left right changes : List Change) → middle ≤ length segments → left ≡ first → right ≡ second → AreChanges (first_from_index index (extents (take middle segments))) first → AreChanges (first_from_index (index + middle) (extents (take (length segments - middle) (drop middle segments)))) second → AreChanges (λ a. option_or (owner_at left a) (owner_at right a)) changes → AreChanges (first_from_index index (extents segments)) changes
changes_of_cut segments middle index first second left right changes within is_first is_second of_first of_second merged =
    let whole : extents (take middle segments) ++ extents (drop middle segments) ≡ extents segments = sym (map-append extent (take middle segments) (drop middle segments)) ∙ ap extents (take-append-drop middle segments) in
    let count : length (extents (take middle segments)) ≡ middle = length-map (take middle segments) extent ∙ length-take-le middle segments within in
    let of_rest : AreChanges (first_from_index (index + length (extents (take middle segments))) (extents (drop middle segments))) second = rw (count, ← take_rest segments middle) of_second in
    rw (← whole) (changes_of_halves (extents (take middle segments)) (extents (drop middle segments)) index first second changes of_first of_rest (rw (← is_first, ← is_second) merged))

-- one segment
pub changes_of_single : (segments : List Segment) (d : Segment) (index : ℕ) (changes : List Change) → 1 ≤ length segments → length segments < 2 → AreChanges (first_from_index index (extent (get_or segments 0 d) ∷ [])) changes → AreChanges (first_from_index index (extents segments)) changes
changes_of_single [] d index changes some few of_one = absurd (omega arith)
changes_of_single (s ∷ []) d index changes some few of_one = of_one
changes_of_single (s ∷ (t ∷ rest)) d index changes some few of_one = absurd (omega arith)

pub placed-take : (segments : List Segment) (n : ℕ) → All IsPlaced (extents segments) → All IsPlaced (extents (take n segments))
placed-take segments n placed = rw (← take-map extent n segments) (All-take IsPlaced n (extents segments) placed)

pub placed-drop : (segments : List Segment) (n : ℕ) → All IsPlaced (extents segments) → All IsPlaced (extents (drop n segments))
placed-drop segments n placed = rw (← drop-map extent n segments) (All-drop IsPlaced n (extents segments) placed)
