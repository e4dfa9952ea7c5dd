-- Ranges that ascend: what those before one map from it on, and those after one up to it.
use Rattle.std.proofs.Common.{◌≡◌, ℕ, ◌<◌, ◌≤◌, inl, inr, Bool, true, false, Option, Some, None, List, [], ◌∷◌, ◌++◌, refl, sym, ◌∙◌, arith}
use Rattle.std.specs.Prelude.{nat_le, ◌&&◌, if◌then◌else◌}
use Rattle.paging_model.specs.Listings.{Stretch, AreStretches, AreApart, target_in}
use Rattle.paging_model.specs.Translations.{Target}
use Rattle.region_map.specs.Coalesced.{ArePageRanges, range_target}
use Rattle.region_map.proofs.Joining.{target_in-outside, target_in-within}

module _ {Kind : Type 0} where
  -- the first of a list ends before one that stands after it
  first-before : (it : Stretch Kind) (before : List (Stretch Kind)) (one : Stretch Kind) (after : List (Stretch Kind))
      → ArePageRanges (before ++ one ∷ after) → AreApart (it ∷ before ++ one ∷ after) → it.last < one.first
  first-before it [] one after ranges apart = apart.0
  first-before it (two ∷ before) one after ranges apart =
      let later = first-before two before one after ranges.1 apart.2 in omega (arith, apart.0, ranges.0.some)

  pub apart-rest : (one : Stretch Kind) (rest : List (Stretch Kind)) → AreApart (one ∷ rest) → AreApart rest
  apart-rest one [] apart = tt
  apart-rest one (two ∷ rest) apart = apart.2

  pub none-before : (before : List (Stretch Kind)) (one : Stretch Kind) (after : List (Stretch Kind)) → ArePageRanges (before ++ one ∷ after)
      → AreApart (before ++ one ∷ after) → (x : ℕ) → one.first ≤ x → target_in before x ≡ None
  none-before [] one after ranges apart x from = refl
  none-before (it ∷ before) one after ranges apart x from =
      let order = first-before it before one after ranges.1 apart in
      target_in-outside it before x (inr (omega arith))
      ∙ none-before before one after ranges.1 (apart-rest it (before ++ one ∷ after) apart) x from

  pub none-after : (five_levels : Bool) (one : Stretch Kind) (rest : List (Stretch Kind)) → AreStretches five_levels rest → AreApart (one ∷ rest)
      → (x : ℕ) → x ≤ one.last → target_in rest x ≡ None
  none-after five_levels one [] are apart x to = refl
  none-after five_levels one (two ∷ rest) are apart x to =
      target_in-outside two rest x (inl (omega (arith, apart.0)))
      ∙ none-after five_levels two rest are.1 apart.2 x (omega (arith, apart.0, are.0.some))

  pub chosen-none : (is : Bool) (target : Target Kind) (other : Option (Target Kind)) → (if is then Some target else other) ≡ None → other ≡ None
  chosen-none true target other none = absurd cc
  chosen-none false target other none = none

  -- a list maps the last address of each of its ranges
  pub last-mapped : (before : List (Stretch Kind)) (one : Stretch Kind) (after : List (Stretch Kind)) → one.first ≤ one.last
      → target_in (before ++ one ∷ after) one.last ≡ None → ⊥
  last-mapped [] one after some none =
      let both : Some (range_target one one.last) ≡ None = sym (target_in-within one after one.last some (omega arith)) ∙ none in
      cc
  last-mapped (it ∷ before) one after some none =
      last-mapped before one after some
      (chosen-none (nat_le it.first one.last && nat_le one.last it.last) (range_target it one.last) (target_in (before ++ one ∷ after) one.last) none)
