-- Lists of regions, by their indices.
use Rattle.std.proofs.Common.{◌≡◌, ℕ, zero, suc, ◌+◌, ◌<◌, ◌≤◌, inl, inr, Some, None, List, [], ◌∷◌, ◌++◌, refl, sym, ap, ◌∙◌, subst, arith, take, drop, get_or, length}
use Rattle.std.specs.Prelude.{option_map, nat_lt, true, false}
use Rattle.std.proofs.lemmas.Bool.{cases_lt}
use Rattle.std.proofs.lemmas.Bool.Decides.{nat_tests}
use Rattle.std.specs.List.Sorted.{IsNonDecreasingBy, IsPartitionPoint}
use Rattle.std.proofs.lemmas.List.{map-append, drop_more, drop_all, take-append-drop}
use Rattle.paging_model.specs.Listings.{Stretch, AreApart, stretch_of_region}
use Rattle.paging_model.specs.Translations.{Protection}
use Rattle.paging_model.specs.declared.spaces.Region.{Region}
use Rattle.region_map.specs.Coalesced.{IsPageRange, ArePageRanges, AreCoalesced, stretches, target_at, range_target, region_at}
use Rattle.region_map.proofs.Joining.{within_both, outside_both, AreCoalesced-rest}

pub less-of_test : (a b : ℕ) → nat_lt a b ≡ true → a < b
less-of_test a b is = grind (arith, nat_tests)

pub at_least-of_test : (a b : ℕ) → nat_lt a b ≡ false → b ≤ a
at_least-of_test a b is = grind (arith, nat_tests)

last-after : (one : Region) (rest : List Region) (k : ℕ) (d : Region) → ArePageRanges (stretches rest) → AreApart (stretches (one ∷ rest)) → k < length rest
    → one.last ≤ (get_or rest k d).last
last-after one [] k d ranges apart within = absurd (omega arith)
last-after one (two ∷ rest) zero d ranges apart within = omega (arith, apart.0, ranges.0.some)
last-after one (two ∷ rest) (suc k) d ranges apart within =
    let later = last-after two rest k d ranges.1 apart.2 (omega arith) in omega (arith, apart.0, ranges.0.some)

rest-apart : (one : Region) (rest : List Region) → AreApart (stretches (one ∷ rest)) → AreApart (stretches rest)
rest-apart one [] apart = tt
rest-apart one (two ∷ rest) apart = apart.2

-- they ascend
ascends : (items : List Region) → ArePageRanges (stretches items) → AreApart (stretches items) → IsNonDecreasingBy (λ one. one.last) items
ascends [] ranges apart i j d order within = absurd (omega arith)
ascends (one ∷ rest) ranges apart zero zero d order within = omega arith
ascends (one ∷ rest) ranges apart zero (suc j) d order within = last-after one rest j d ranges.1 apart (omega arith)
ascends (one ∷ rest) ranges apart (suc i) zero d order within = absurd (omega arith)
ascends (one ∷ rest) ranges apart (suc i) (suc j) d order within = ascends rest ranges.1 (rest-apart one rest apart) i j d (omega arith) (omega arith)

pub coalesced-ascends : (items : List Region) → AreCoalesced (stretches items) → IsNonDecreasingBy (λ one. one.last) items
coalesced-ascends items coalesced = ascends items coalesced.ranges coalesced.apart

pub range-at : (items : List Region) (k : ℕ) (d : Region) → ArePageRanges (stretches items) → k < length items → IsPageRange (stretch_of_region (get_or items k d))
range-at [] k d ranges within = absurd (omega arith)
range-at (one ∷ rest) zero d ranges within = ranges.0
range-at (one ∷ rest) (suc k) d ranges within = range-at rest k d ranges.1 (omega arith)

-- the region of an address is that which maps it
pub target-of_region : (items : List Region) (x : ℕ) → option_map (λ region. range_target (stretch_of_region region) x) (region_at items x) ≡ target_at items x
target-of_region [] x = refl
target-of_region (one ∷ rest) x = elim (cases_lt x one.first) [
  | inl before ↦ rw (outside_both one.first one.last x (inl before)) (target-of_region rest x)
  | inr from ↦ elim (cases_lt one.last x) [
    | inl after ↦ rw (outside_both one.first one.last x (inr after)) (target-of_region rest x)
    | inr to ↦ rw (within_both one.first one.last x from to) refl
  ]
]

region-before : (one : Region) (rest : List Region) (x : ℕ) → ArePageRanges (stretches (one ∷ rest)) → AreApart (stretches (one ∷ rest)) → x < one.first
    → region_at (one ∷ rest) x ≡ None
region-before one [] x ranges apart before = rw (outside_both one.first one.last x (inl before)) refl
region-before one (two ∷ rest) x ranges apart before =
    rw (outside_both one.first one.last x (inl before))
    (region-before two rest x ranges.1 apart.2 (omega (arith, apart.0, ranges.0.some)))

-- those that end before an address don't hold it
region-skipped : (items : List Region) (n : ℕ) (x : ℕ) → n ≤ length items → ((k : ℕ) (d : Region) → 0 ≤ k → k < n → (get_or items k d).last < x)
    → region_at items x ≡ region_at (drop n items) x
region-skipped items zero x within before = refl
region-skipped [] (suc n) x within before = absurd (omega arith)
region-skipped (one ∷ rest) (suc n) x within before =
    let first : one.last < x = before 0 one (omega arith) (omega arith) in
    rw (outside_both one.first one.last x (inr first))
    (region-skipped rest n x (omega arith) (λ k d low high. before (suc k) d (omega arith) (omega arith)))

-- a list in two parts
pub parts-at : (items : List Region) (n : ℕ) → stretches items ≡ stretches (take n items) ++ stretches (drop n items)
parts-at items n = ap stretches (sym (take-append-drop n items)) ∙ map-append stretch_of_region (take n items) (drop n items)

pub drop-coalesced : (items : List Region) (n : ℕ) → AreCoalesced (stretches items) → AreCoalesced (stretches (drop n items))
drop-coalesced items n coalesced =
    AreCoalesced-rest (stretches (take n items)) (stretches (drop n items))
    (subst (λ (it : List (Stretch Protection)). AreCoalesced it) (parts-at items n) coalesced)

-- the first region that doesn't end before an address is the one that can hold it
module _ (items : List Region) (coalesced : AreCoalesced (stretches items)) (x n : ℕ) (within : n ≤ length items)
    (point : IsPartitionPoint (λ (one : Region). one.last < x) (λ (one : Region). x ≤ one.last) items n) where
  pub region-none : length items ≤ n → region_at items x ≡ None
  region-none all =
      region-skipped items n x within point.0 ∙ ap (λ (it : List Region). region_at it x) (drop_all n items all)

  module _ (region : Region) (there : n < length items) (read : region ≡ get_or items n region) where
    left : drop n items ≡ region ∷ drop (n + 1) items
    left = drop_more items n region there ∙ ap (λ (it : Region). it ∷ drop (n + 1) items) (sym read)

    rest : AreCoalesced (stretches (region ∷ drop (n + 1) items))
    rest = subst (λ (it : List Region). AreCoalesced (stretches it)) left (drop-coalesced items n coalesced)

    to : x ≤ region.last
    to = subst (λ (it : Region). x ≤ it.last) (sym read) (point.1 n region (omega arith) there)

    pub region-held : region.first ≤ x → region_at items x ≡ Some region
    region-held from =
        region-skipped items n x within point.0
        ∙ (ap (λ (it : List Region). region_at it x) left ∙ rw (within_both region.first region.last x from to) refl)

    pub region-gap : x < region.first → region_at items x ≡ None
    region-gap gap =
        region-skipped items n x within point.0
        ∙ (ap (λ (it : List Region). region_at it x) left ∙ region-before region (drop (n + 1) items) x rest.ranges rest.apart gap)
