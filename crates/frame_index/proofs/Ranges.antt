-- What lies between two keys of the maps.
use Rattle.std.proofs.Common.{◌≡◌, ℕ, ◌<◌, ◌≤◌, ◌⊎◌, inl, inr, false, None, Some, List, [], ◌∷◌, Ordering, refl, sym, ap, ◌∙◌, subst, arith}
use Rattle.std.proofs.lemmas.Bool.{cases_eq, cases_lt}
use Rattle.std.proofs.lemmas.Map.Keys.{le_from_not_gt}
use Rattle.std.specs.BTreeMap.{BTreeMap, get}
use Rattle.std.specs.BTreeMap.Range.{IsEntryInRange, IsInRange, IsRangeOf}
use Rattle.std.specs.Cmp.{nat_cmp_is}
use Rattle.std.specs.List.{slice_get}
use Rattle.std.specs.Option.{IfSome}
use Rattle.std.specs.Ordering.{is_gt, nat_cmp, ordering_then}
use Rattle.std.specs.declared.cmp.Ordering.TheVariants.{Less, Equal, Greater}
use Rattle.std.specs.declared.ops.Bound.{Bound}
use Rattle.std.specs.declared.ops.Bound.TheVariants.{Included}
use Rattle.frame_index.specs.Records.{frame_cmp, place_cmp}

less_is : (a b : ℕ) → a < b → nat_cmp a b ≡ Less
less_is a b below = sym (nat_cmp_is a b Less below)

equal_is : (a b : ℕ) → a ≡ b → nat_cmp a b ≡ Equal
equal_is a b same = sym (nat_cmp_is a b Equal same)

greater_is : (a b : ℕ) → b < a → nat_cmp a b ≡ Greater
greater_is a b above = sym (nat_cmp_is a b Greater above)

three_cases : (a b : ℕ) → (a < b) ⊎ ((a ≡ b) ⊎ (b < a))
three_cases a b = elim (cases_lt a b) [
  | inl below ↦ inl below
  | inr from ↦ elim (cases_eq a b) [
    | inl same ↦ inr (inl same)
    | inr differs ↦ inr (inr (omega (arith, from, differs)))
  ]
]

from_zero : (b : ℕ × ℕ) → (0 < b.0) ⊎ ((0 ≡ b.0) × (0 ≤ b.1))
from_zero b = elim (cases_lt 0 b.0) [ inl below ↦ inl below | inr none ↦ inr (omega (arith, none), omega arith) ]

to_most : (a : ℕ × ℕ) → a.0 ≤ 255 → a.1 ≤ 18446744073709551615 → (a.0 < 255) ⊎ ((a.0 ≡ 255) × (a.1 ≤ 18446744073709551615))
to_most a first second = elim (cases_lt a.0 255) [ inl below ↦ inl below | inr from ↦ inr (omega (arith, from, first), second) ]

pub not_gt : (a b : ℕ) → a ≤ b → is_gt (nat_cmp a b) ≡ false
not_gt a b le = elim (three_cases a b) [
  | inl below ↦ ap is_gt (less_is a b below)
  | inr (inl same) ↦ ap is_gt (equal_is a b same)
  | inr (inr above) ↦ absurd (omega (arith, le, above))
]

-- pairs are ordered by their first parts, then by their second
module _ (rest : Ordering) (a b : ℕ) where
  pub first_or_rest : is_gt (ordering_then (nat_cmp a b) rest) ≡ false → (a < b) ⊎ ((a ≡ b) × (is_gt rest ≡ false))
  first_or_rest le = elim (three_cases a b) [
    | inl below ↦ inl below
    | inr (inl same) ↦ inr (same, sym (ap (λ (o : Ordering). is_gt (ordering_then o rest)) (equal_is a b same)) ∙ le)
    | inr (inr above) ↦ let gt = ap (λ (o : Ordering). is_gt (ordering_then o rest)) (greater_is a b above) in absurd (cc)
  ]

  pub le_by_rest : a ≡ b → is_gt rest ≡ false → is_gt (ordering_then (nat_cmp a b) rest) ≡ false
  le_by_rest same le = ap (λ (o : Ordering). is_gt (ordering_then o rest)) (equal_is a b same) ∙ le

  pub less_or_rest : ordering_then (nat_cmp a b) rest ≡ Less → (a < b) ⊎ ((a ≡ b) × (rest ≡ Less))
  less_or_rest less = elim (three_cases a b) [
    | inl below ↦ inl below
    | inr (inl same) ↦ inr (same, sym (ap (λ (o : Ordering). ordering_then o rest) (equal_is a b same)) ∙ less)
    | inr (inr above) ↦ let gt = ap (λ (o : Ordering). ordering_then o rest) (greater_is a b above) in absurd (cc)
  ]

  pub le_by_first : a < b → is_gt (ordering_then (nat_cmp a b) rest) ≡ false
  le_by_first below = ap (λ (o : Ordering). is_gt (ordering_then o rest)) (less_is a b below)

pub below_from_less : (a b : ℕ) → nat_cmp a b ≡ Less → a < b
below_from_less a b less = elim (three_cases a b) [
  | inl below ↦ below
  | inr (inl same) ↦ let eq = equal_is a b same in absurd (cc)
  | inr (inr above) ↦ let gt = greater_is a b above in absurd (cc)
]

pub le_pair : (a b : ℕ × ℕ) → (a.0 < b.0) ⊎ ((a.0 ≡ b.0) × (a.1 ≤ b.1)) → is_gt (place_cmp a b) ≡ false
le_pair a b (inl below) = le_by_first (nat_cmp a.1 b.1) a.0 b.0 below
le_pair a b (inr le) = le_by_rest (nat_cmp a.1 b.1) a.0 b.0 le.0 (not_gt a.1 b.1 le.1)

pub record IsOfLevel (first last level : ℕ) (place : ℕ × ℕ) : Type 0 where
  pub level_is : place.0 ≡ level
  pub from : first ≤ place.1
  pub to : place.1 ≤ last

pub of_level : (first last level : ℕ) (place : ℕ × ℕ) → IsInRange place_cmp (Included (level, first)) (Included (level, last)) place → IsOfLevel first last level place
of_level first last level place between = by_parts
    (first_or_rest (nat_cmp first place.1) level place.0 between.0)
    (first_or_rest (nat_cmp place.1 last) place.0 level between.1)
  where
    by_parts : (level < place.0) ⊎ ((level ≡ place.0) × (is_gt (nat_cmp first place.1) ≡ false)) → (place.0 < level) ⊎ ((place.0 ≡ level) × (is_gt (nat_cmp place.1 last) ≡ false)) → IsOfLevel first last level place
    by_parts (inl low) (inl high) = absurd (omega (arith, low, high))
    by_parts (inl low) (inr high) = let same = high.0 in absurd (omega (arith, low, same))
    by_parts (inr low) (inl high) = let same = low.0 in absurd (omega (arith, high, same))
    by_parts (inr low) (inr high) = record { level_is = high.0; from = le_from_not_gt first place.1 low.1; to = le_from_not_gt place.1 last high.1 }

pub level_between : (first last level : ℕ) (place : ℕ × ℕ) → place.0 ≡ level → first ≤ place.1 → place.1 ≤ last → IsInRange place_cmp (Included (level, first)) (Included (level, last)) place
level_between first last level place same from to = (
  le_by_rest (nat_cmp first place.1) level place.0 (sym same) (not_gt first place.1 from),
  le_by_rest (nat_cmp place.1 last) place.0 level same (not_gt place.1 last to),
)

abbrev pub first_of : ℕ → Bound (ℕ × (ℕ × ℕ))
first_of frame = Included (frame, (0, 0))

abbrev pub last_of : ℕ → Bound (ℕ × (ℕ × ℕ))
last_of frame = Included (frame, (255, 18446744073709551615))

pub of_frame : (frame : ℕ) (place : ℕ × (ℕ × ℕ)) → IsInRange frame_cmp (first_of frame) (last_of frame) place → place.0 ≡ frame
of_frame frame place between = by_parts
    (first_or_rest (place_cmp (0, 0) place.1) frame place.0 between.0)
    (first_or_rest (place_cmp place.1 (255, 18446744073709551615)) place.0 frame between.1)
  where
    by_parts : (frame < place.0) ⊎ ((frame ≡ place.0) × (is_gt (place_cmp (0, 0) place.1) ≡ false)) → (place.0 < frame) ⊎ ((place.0 ≡ frame) × (is_gt (place_cmp place.1 (255, 18446744073709551615)) ≡ false)) → place.0 ≡ frame
    by_parts (inl low) (inl high) = absurd (omega (arith, low, high))
    by_parts (inl low) (inr high) = high.0
    by_parts (inr low) high = sym low.0

pub frame_between : (frame : ℕ) (place : ℕ × (ℕ × ℕ)) → place.0 ≡ frame → place.1.0 ≤ 255 → place.1.1 ≤ 18446744073709551615 → IsInRange frame_cmp (first_of frame) (last_of frame) place
frame_between frame place same level prefix = (
  le_by_rest (place_cmp (0, 0) place.1) frame place.0 (sym same) (le_pair (0, 0) place.1 (from_zero place.1)),
  le_by_rest (place_cmp place.1 (255, 18446744073709551615)) place.0 frame same (le_pair place.1 (255, 18446744073709551615) (to_most place.1 level prefix)),
)

-- the first entry of a range
pub first_found : (first last level : ℕ) (map : BTreeMap (ℕ × ℕ) ℕ) (all : List ((ℕ × ℕ) × ℕ)) (entry : (ℕ × ℕ) × ℕ) (rest : List ((ℕ × ℕ) × ℕ)) → IsRangeOf place_cmp (Included (level, first)) (Included (level, last)) map all → all ≡ entry ∷ rest → (prefix : ℕ) × (first ≤ prefix) × (prefix ≤ last) × (get place_cmp map (level, prefix) ≡ Some entry.1)
first_found first last level map all entry rest range is =
    let found : IsEntryInRange place_cmp (Included (level, first)) (Included (level, last)) map entry =
    subst (λ (xs : List ((ℕ × ℕ) × ℕ)). IfSome (slice_get xs 0) (IsEntryInRange place_cmp (Included (level, first)) (Included (level, last)) map)) is range.1 in
    let place = of_level first last level entry.0 found.0 in
    let same : entry.0 ≡ (level, entry.0.1) = λ n. (place.level_is n, entry.0.1) in
    (entry.0.1, place.from, place.to, ap (get place_cmp map) (sym same) ∙ found.1)

pub none_found : (first last level : ℕ) (map : BTreeMap (ℕ × ℕ) ℕ) (all : List ((ℕ × ℕ) × ℕ)) → IsRangeOf place_cmp (Included (level, first)) (Included (level, last)) map all → all ≡ [] → (prefix : ℕ) → first ≤ prefix → prefix ≤ last → get place_cmp map (level, prefix) ≡ None
none_found first last level map all range is prefix from to =
    range.5 is (level, prefix) (level_between first last level (level, prefix) refl from to)
