-- The intersection of two sets, interval by interval.
use Rattle.std.proofs.Common.{◌≡◌, ℕ, ◌+◌, ◌<◌, ◌≤◌, ◌⊎◌, inl, inr, ◌&&◌, Bool, true, false, List, [], ◌∷◌, ◌++◌, length, get_or, drop, refl, sym, ap, ◌∙◌, arith, subst}
use Rattle.std.specs.Prelude.{◌||◌, min, max, nat_le, if◌then◌else◌}
use Rattle.std.proofs.lemmas.List.{drop_more}
use Rattle.std.proofs.lemmas.Bool.Decides.{nat_tests}
use Rattle.time_sets.specs.Sets.{is_within, has_time, AreApartFrom}
use Rattle.time_sets.specs.Ends.{CanFollow, with_numbers}
use Rattle.time_sets.proofs.IntervalLists.{follow-greater, follow-more, apart-lower, has-append, meet-left, meet-right, both_within, none_within}

-- the intersection so far: the first i intervals of one and the first j of the other are done with
pub record IsMet (one other both : List (ℕ × ℕ)) (i j : ℕ) : Type 0 where
  pub low : ℕ
  pub one_within : i ≤ length one
  pub other_within : j ≤ length other
  pub members : (t : ℕ) → (has_time both t || (has_time (drop i one) t && has_time (drop j other) t)) ≡ (has_time one t && has_time other t)
  pub follow : CanFollow both low
  pub onward : AreApartFrom low (drop i one) ⊎ AreApartFrom low (drop j other)
  pub one_apart : AreApartFrom 0 (drop i one)
  pub other_apart : AreApartFrom 0 (drop j other)

or_assoc : (a b c : Bool) → ((a || b) || c) ≡ (a || (b || c))
or_assoc true b c = refl
or_assoc false b c = refl

or_false : (a b c : Bool) → b ≡ false → (a || (b || c)) ≡ (a || c)
or_false a b c h = rw h refl

or_nil : (a b : Bool) → b ≡ false → (a || b) ≡ a
or_nil true b h = refl
or_nil false b h = h

module _ (one other both : List (ℕ × ℕ)) (i j : ℕ) (d : ℕ × ℕ) (met : IsMet one other both i j) (one_test : i < length one) (other_test : j < length other) where
  abbrev a : ℕ × ℕ
  a = get_or one i d

  abbrev b : ℕ × ℕ
  b = get_or other j d

  one_is : drop i one ≡ a ∷ drop (i + 1) one
  one_is = drop_more one i d one_test

  other_is : drop j other ≡ b ∷ drop (j + 1) other
  other_is = drop_more other j d other_test

  one_apart : AreApartFrom 0 (a ∷ drop (i + 1) one)
  one_apart = subst (AreApartFrom 0) one_is met.one_apart

  other_apart : AreApartFrom 0 (b ∷ drop (j + 1) other)
  other_apart = subst (AreApartFrom 0) other_is met.other_apart

  -- where the next intersection may begin
  low_is : met.low ≤ max a.0 b.0
  low_is = elim met.onward [
    | inl s ↦ let head : AreApartFrom met.low (a ∷ drop (i + 1) one) = subst (AreApartFrom met.low) one_is s in omega (arith, head.0)
    | inr o ↦ let head : AreApartFrom met.low (b ∷ drop (j + 1) other) = subst (AreApartFrom met.low) other_is o in omega (arith, head.0)
  ]

  members_is : (t : ℕ) → (has_time both t || (has_time (a ∷ drop (i + 1) one) t && has_time (b ∷ drop (j + 1) other) t)) ≡ (has_time one t && has_time other t)
  members_is t = rw (one_is, other_is) at (met.members t)

  tail_some : AreApartFrom met.low (drop i one) ⊎ AreApartFrom met.low (drop j other) → AreApartFrom met.low (drop (i + 1) one) ⊎ AreApartFrom met.low (drop j other)
  tail_some (inl s) = let head : AreApartFrom met.low (a ∷ drop (i + 1) one) = subst (AreApartFrom met.low) one_is s in inl (apart-lower _ _ _ (omega (arith, head.0, head.1)) head.2)
  tail_some (inr o) = inr o

  tail_other : AreApartFrom met.low (drop i one) ⊎ AreApartFrom met.low (drop j other) → AreApartFrom met.low (drop i one) ⊎ AreApartFrom met.low (drop (j + 1) other)
  tail_other (inl s) = inl s
  tail_other (inr o) = let head : AreApartFrom met.low (b ∷ drop (j + 1) other) = subst (AreApartFrom met.low) other_is o in inr (apart-lower _ _ _ (omega (arith, head.0, head.1)) head.2)

  -- the first interval of one ends first
  met_left : a.1 < b.1 → max a.0 b.0 ≤ min a.1 b.1 → IsMet one other (both ++ (max a.0 b.0, min a.1 b.1) ∷ []) (i + 1) j
  met_left h overlap = record {
    low = a.1 + 2;
    one_within = omega arith;
    other_within = met.other_within;
    members = λ t.
        rw (has-append both ((max a.0 b.0, min a.1 b.1) ∷ []) t, ← both_within a b t, or_nil (is_within a t && is_within b t) false refl, or_assoc (has_time both t) (is_within a t && is_within b t) (has_time (drop (i + 1) one) t && has_time (drop j other) t), other_is)
        (ap (λ x. has_time both t || x) (sym (meet-left a b (drop (i + 1) one) (drop (j + 1) other) t h other_apart.2)) ∙ members_is t);
    follow = let one : CanFollow (both ++ (max a.0 b.0, min a.1 b.1) ∷ []) (min a.1 b.1 + 2) = follow-more both met.low (max a.0 b.0, min a.1 b.1) met.follow low_is overlap in follow-greater _ _ _ (omega arith) one;
    onward = inl one_apart.2;
    one_apart = apart-lower _ _ _ (omega arith) one_apart.2;
    other_apart = met.other_apart;
  }

  skip_left : a.1 < b.1 → min a.1 b.1 < max a.0 b.0 → IsMet one other both (i + 1) j
  skip_left h apart = record {
    low = met.low;
    one_within = omega arith;
    other_within = met.other_within;
    members = λ t.
        rw other_is
        (sym (or_false (has_time both t) (is_within a t && is_within b t) (has_time (drop (i + 1) one) t && has_time (b ∷ drop (j + 1) other) t) (both_within a b t ∙ none_within (max a.0 b.0, min a.1 b.1) t apart))
        ∙ ap (λ x. has_time both t || x) (sym (meet-left a b (drop (i + 1) one) (drop (j + 1) other) t h other_apart.2)) ∙ members_is t);
    follow = met.follow;
    onward = tail_some met.onward;
    one_apart = apart-lower _ _ _ (omega arith) one_apart.2;
    other_apart = met.other_apart;
  }

  -- the first interval of the other ends first, or at the same number
  met_right : b.1 ≤ a.1 → max a.0 b.0 ≤ min a.1 b.1 → IsMet one other (both ++ (max a.0 b.0, min a.1 b.1) ∷ []) i (j + 1)
  met_right h overlap = record {
    low = b.1 + 2;
    one_within = met.one_within;
    other_within = omega arith;
    members = λ t.
        rw (has-append both ((max a.0 b.0, min a.1 b.1) ∷ []) t, ← both_within a b t, or_nil (is_within a t && is_within b t) false refl, or_assoc (has_time both t) (is_within a t && is_within b t) (has_time (drop i one) t && has_time (drop (j + 1) other) t), one_is)
        (ap (λ x. has_time both t || x) (sym (meet-right a b (drop (i + 1) one) (drop (j + 1) other) t h one_apart.2)) ∙ members_is t);
    follow = let one : CanFollow (both ++ (max a.0 b.0, min a.1 b.1) ∷ []) (min a.1 b.1 + 2) = follow-more both met.low (max a.0 b.0, min a.1 b.1) met.follow low_is overlap in follow-greater _ _ _ (omega arith) one;
    onward = inr other_apart.2;
    one_apart = met.one_apart;
    other_apart = apart-lower _ _ _ (omega arith) other_apart.2;
  }

  skip_right : b.1 ≤ a.1 → min a.1 b.1 < max a.0 b.0 → IsMet one other both i (j + 1)
  skip_right h apart = record {
    low = met.low;
    one_within = met.one_within;
    other_within = omega arith;
    members = λ t.
        rw one_is
        (sym (or_false (has_time both t) (is_within a t && is_within b t) (has_time (a ∷ drop (i + 1) one) t && has_time (drop (j + 1) other) t) (both_within a b t ∙ none_within (max a.0 b.0, min a.1 b.1) t apart))
        ∙ ap (λ x. has_time both t || x) (sym (meet-right a b (drop (i + 1) one) (drop (j + 1) other) t h one_apart.2)) ∙ members_is t);
    follow = met.follow;
    onward = tail_other met.onward;
    one_apart = met.one_apart;
    other_apart = apart-lower _ _ _ (omega arith) other_apart.2;
  }

  pub meet-step_left : a.1 < b.1 → IsMet one other (with_numbers both (max a.0 b.0, min a.1 b.1)) (i + 1) j
  meet-step_left h = by_test (nat_le (max a.0 b.0) (min a.1 b.1)) refl
    where
      by_test : (test : Bool) → nat_le (max a.0 b.0) (min a.1 b.1) ≡ test → IsMet one other (if test then both ++ (max a.0 b.0, min a.1 b.1) ∷ [] else both) (i + 1) j
      by_test true e = met_left h (grind (arith, nat_tests))
      by_test false e = skip_left h (grind (arith, nat_tests))

  pub meet-step_right : b.1 ≤ a.1 → IsMet one other (with_numbers both (max a.0 b.0, min a.1 b.1)) i (j + 1)
  meet-step_right h = by_test (nat_le (max a.0 b.0) (min a.1 b.1)) refl
    where
      by_test : (test : Bool) → nat_le (max a.0 b.0) (min a.1 b.1) ≡ test → IsMet one other (if test then both ++ (max a.0 b.0, min a.1 b.1) ∷ [] else both) i (j + 1)
      by_test true e = met_right h (grind (arith, nat_tests))
      by_test false e = skip_right h (grind (arith, nat_tests))

and_right : (x : Bool) → (x && false) ≡ false
and_right true = refl
and_right false = refl

or_right : (x : Bool) → (x || false) ≡ x
or_right true = refl
or_right false = refl

-- where one of the lists is at its end, the intersection is whole
pub meet-whole : (one other both : List (ℕ × ℕ)) (i j : ℕ) → IsMet one other both i j → (drop i one ≡ []) ⊎ (drop j other ≡ []) → (t : ℕ) → has_time both t ≡ (has_time one t && has_time other t)
meet-whole one other both i j met (inl e) t = sym (or_right (has_time both t)) ∙ (rw e at (met.members t))
meet-whole one other both i j met (inr e) t = sym (or_right (has_time both t)) ∙ (ap (λ x. has_time both t || x) (sym (and_right (has_time (drop i one) t))) ∙ (rw e at (met.members t)))
