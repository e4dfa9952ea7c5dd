-- What lists map, part by part.
use Rattle.std.proofs.Common.{◌≡◌, ℕ, ◌+◌, ◌^◌, ◌<◌, ◌≤◌, inl, inr, Bool, true, false, Option, Some, None, List, [], ◌∷◌, ◌++◌, refl, sym, ap, ◌∙◌, arith}
use Rattle.std.specs.Prelude.{nat_le, ◌&&◌, if◌then◌else◌}
use Rattle.std.specs.Option.{option_or}
use Rattle.std.proofs.lemmas.Bool.{cases_lt}
use Rattle.paging_model.specs.Listings.{Stretch, AreApart, target_in}
use Rattle.paging_model.specs.Translations.{Target}
use Rattle.region_map.specs.Coalesced.{ArePageRanges, AreCoalesced, range_target}
use Rattle.region_map.proofs.Joining.{ArePageRanges-split, target_in-outside}

module _ {Kind : Type 0} where
  or-chosen : (is : Bool) (target : Target Kind) (p q r : Option (Target Kind)) → q ≡ option_or p r
      → (if is then Some target else q) ≡ option_or (if is then Some target else p) r
  or-chosen true target p q r same = refl
  or-chosen false target p q r same = same

  -- the first list counts, and the second where that maps nothing
  pub target_in-append_or : (before after : List (Stretch Kind)) (x : ℕ)
      → target_in (before ++ after) x ≡ option_or (target_in before x) (target_in after x)
  target_in-append_or [] after x = refl
  target_in-append_or (one ∷ before) after x =
      or-chosen (nat_le one.first x && nat_le x one.last) (range_target one x) (target_in before x) (target_in (before ++ after) x) (target_in after x)
      (target_in-append_or before after x)

  or_none : (p : Option (Target Kind)) → option_or p None ≡ p
  or_none None = refl
  or_none (Some target) = refl

  pub target_in-before_none : (before after : List (Stretch Kind)) (x : ℕ) → target_in before x ≡ None
      → target_in (before ++ after) x ≡ target_in after x
  target_in-before_none before after x none =
      target_in-append_or before after x ∙ ap (λ (it : Option (Target Kind)). option_or it (target_in after x)) none

  pub target_in-after_none : (before after : List (Stretch Kind)) (x : ℕ) → target_in after x ≡ None
      → target_in (before ++ after) x ≡ target_in before x
  target_in-after_none before after x none =
      target_in-append_or before after x
      ∙ (ap (λ (it : Option (Target Kind)). option_or (target_in before x) it) none ∙ or_none (target_in before x))

  -- lists that map an address alike do so before any other list
  pub target_in-same_append : (one other after : List (Stretch Kind)) (x : ℕ) → target_in one x ≡ target_in other x
      → target_in (one ++ after) x ≡ target_in (other ++ after) x
  target_in-same_append one other after x same =
      target_in-append_or one after x
      ∙ (ap (λ (it : Option (Target Kind)). option_or it (target_in after x)) same ∙ sym (target_in-append_or other after x))

  -- something is mapped or nothing
  pub never-both : (target : Target Kind) (o : Option (Target Kind)) → o ≡ Some target → o ≡ None → ⊥
  never-both target o some none = let both : Some target ≡ None = sym some ∙ none in cc

  pub none-of : (o : Option (Target Kind)) → ((target : Target Kind) → o ≡ Some target → ⊥) → o ≡ None
  none-of None never = refl
  none-of (Some target) never = absurd (never target refl)

  -- up to the end of the range before a list, it maps nothing
  pub none-up_to : (one : Stretch Kind) (rest : List (Stretch Kind)) (x : ℕ) → ArePageRanges rest → AreApart (one ∷ rest) → x ≤ one.last
      → target_in rest x ≡ None
  none-up_to one [] x ranges apart to = refl
  none-up_to one (two ∷ rest) x ranges apart to =
      target_in-outside two rest x (inl (omega (arith, apart.0)))
      ∙ none-up_to two rest x ranges.1 apart.2 (omega (arith, apart.0, ranges.0.some))

  -- nor does it before its own first range
  pub none-below : (one : Stretch Kind) (rest : List (Stretch Kind)) (x : ℕ) → AreCoalesced (one ∷ rest) → x < one.first
      → target_in (one ∷ rest) x ≡ None
  none-below one rest x coalesced before =
      target_in-outside one rest x (inl before)
      ∙ none-up_to one rest x coalesced.ranges.1 coalesced.apart (omega (arith, coalesced.ranges.0.some))

  -- nor past the last address
  pub none-past : (list : List (Stretch Kind)) (x : ℕ) → ArePageRanges list → 2 ^ 64 ≤ x → target_in list x ≡ None
  none-past [] x ranges past = refl
  none-past (one ∷ rest) x ranges past =
      target_in-outside one rest x (inr (omega (arith, ranges.0.below))) ∙ none-past rest x ranges.1 past

  AreApart-front : (before after : List (Stretch Kind)) → AreApart (before ++ after) → AreApart before
  AreApart-front [] after apart = tt
  AreApart-front (one ∷ []) after apart = tt
  AreApart-front (one ∷ two ∷ before) after apart = (apart.0, apart.1, AreApart-front (two ∷ before) after apart.2)

  pub AreCoalesced-front : (before after : List (Stretch Kind)) → AreCoalesced (before ++ after) → AreCoalesced before
  AreCoalesced-front before after coalesced = record {
    ranges = (ArePageRanges-split before after coalesced.ranges).0;
    apart = AreApart-front before after coalesced.apart;
  }
