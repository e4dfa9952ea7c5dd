-- Held times, interval by interval.
use Rattle.std.proofs.Common.{◌≡◌, ℕ, zero, suc, ◌+◌, ◌<◌, ◌≤◌, ◌⊎◌, inl, inr, Bool, true, false, List, [], ◌∷◌, ◌++◌, length, get_or, refl, sym, ap, ◌∙◌, arith}
use Rattle.std.specs.Prelude.{◌↔◌, ◌||◌, nat_le}
use Rattle.std.proofs.lemmas.Bool.Decides.{nat_tests}
use Rattle.time_sets.specs.Sets.{has_time, is_within, AreApartFrom}
use Rattle.held_times.specs.HeldTimes.{IsHeldAt, IsHeldTo}

pub either : (a b : Bool) → (a || b) ≡ true → (a ≡ true) ⊎ (b ≡ true)
either true b h = inl refl
either false b h = inr h

or-left : (a b : Bool) → a ≡ true → (a || b) ≡ true
or-left true b h = refl
or-left false b h = absurd (cc)

pub or-right : (a b : Bool) → b ≡ true → (a || b) ≡ true
or-right true b h = refl
or-right false b h = h

has-append : (xs ys : List (ℕ × ℕ)) (t : ℕ) → has_time (xs ++ ys) t ≡ (has_time xs t || has_time ys t)
has-append [] ys t = refl
has-append (x ∷ xs) ys t = ap (λ b. is_within x t || b) (has-append xs ys t) ∙ assoc (is_within x t) (has_time xs t) (has_time ys t)
  where
    assoc : (a b c : Bool) → (a || (b || c)) ≡ ((a || b) || c)
    assoc true b c = refl
    assoc false b c = refl

-- what was made in the first intervals is held at the times of `held`; with one interval more, at those of `more`
module _ (is_taken : ℕ → Bool) (now : ℕ) (xs held more : List (ℕ × ℕ)) (next : ℕ × ℕ) (end : ℕ) (order : next.0 ≤ next.1)
    (to_end : IsHeldTo is_taken next.1 now end) (so_far : (u : ℕ) → has_time held u ≡ true ↔ IsHeldAt is_taken xs now u)
    (are_more : (t : ℕ) → has_time more t ≡ (has_time held t || is_within (next.0, end) t)) where
  front : (t : ℕ) → has_time xs t ≡ true → has_time (xs ++ next ∷ []) t ≡ true
  front t h = has-append xs (next ∷ []) t ∙ or-left _ _ h

  back : (t : ℕ) → is_within next t ≡ true → has_time (xs ++ next ∷ []) t ≡ true
  back t h = has-append xs (next ∷ []) t ∙ or-right _ _ (or-left _ _ h)

  in-last : (t : ℕ) → has_time (next ∷ []) t ≡ true → is_within next t ≡ true
  in-last t h = elim (either (is_within next t) false h) [ inl a ↦ a | inr b ↦ absurd (cc) ]

  more-held : (u : ℕ) → has_time more u ≡ true → IsHeldAt is_taken (xs ++ next ∷ []) now u
  more-held u h = elim (either (has_time held u) (is_within (next.0, end) u) (sym (are_more u) ∙ h)) [
    | inl a ↦ let k : IsHeldAt is_taken xs now u = (so_far u).0 a in
        record { t = k.t; is_made = front k.t k.is_made; order = k.order; within = k.within; spared = k.spared }
    | inr b ↦ by_test b (nat_le u next.1) refl
  ]
    where
      by_test : is_within (next.0, end) u ≡ true → (early : Bool) → nat_le u next.1 ≡ early
          → IsHeldAt is_taken (xs ++ next ∷ []) now u
      by_test b true e = record {
        t = u;
        is_made = back u (grind (arith, nat_tests, b, e));
        order = omega arith;
        within = let w = to_end.within in let c : u ≤ end = grind (arith, nat_tests, b) in omega arith;
        spared = λ v p q. absurd (omega arith);
      }
      by_test b false e =
          let late : next.1 < u = grind (arith, nat_tests, e) in
          let c : u ≤ end = grind (arith, nat_tests, b) in
          let w = to_end.within in
          record {
            t = next.1;
            is_made = back next.1 (grind (arith, nat_tests, order));
            order = omega arith;
            within = omega arith;
            spared = λ v p q. to_end.spared v p (omega arith);
          }

  held-more : (u : ℕ) → IsHeldAt is_taken (xs ++ next ∷ []) now u → has_time more u ≡ true
  held-more u k = are_more u ∙ elim (either (has_time xs k.t) (has_time (next ∷ []) k.t) (sym (has-append xs (next ∷ []) k.t) ∙ k.is_made)) [
    | inl a ↦ or-left _ _ ((so_far u).1 (record {
      t = k.t;
      is_made = a;
      order = k.order;
      within = k.within;
      spared = k.spared;
    }))
    | inr b ↦ or-right _ _ (by_test (in-last k.t b) (nat_le u next.1) refl)
  ]
    where
      by_test : is_within next k.t ≡ true → (early : Bool) → nat_le u next.1 ≡ early → is_within (next.0, end) u ≡ true
      by_test b true e = let o = k.order in let l = to_end.order in grind (arith, nat_tests, b, e, o, l)
      by_test b false e =
          let late : next.1 < u = grind (arith, nat_tests, e) in
          let o = k.order in
          let c : k.t ≤ next.1 = grind (arith, nat_tests, b) in
          let g : u ≤ end = to_end.greatest u (omega arith) k.within (λ v p q. k.spared v (omega arith) q) in
          grind (arith, nat_tests, b, g, o)

  pub one-more : (u : ℕ) → has_time more u ≡ true ↔ IsHeldAt is_taken (xs ++ next ∷ []) now u
  one-more u = (more-held u, held-more u)

-- the ends of an interval of a set are in order, and the last one is in the set
pub interval-at : (low : ℕ) (list : List (ℕ × ℕ)) (k : ℕ) (d : ℕ × ℕ) → AreApartFrom low list → k < length list
    → ((get_or list k d).0 ≤ (get_or list k d).1) × (has_time list (get_or list k d).1 ≡ true)
interval-at low [] k d apart h = absurd (omega arith)
interval-at low (one ∷ rest) zero d apart h = let o = apart.1 in (o, grind (arith, nat_tests, o))
interval-at low (one ∷ rest) (suc k) d apart h =
    let later = interval-at (one.1 + 2) rest k d apart.2 (omega arith) in (later.0, or-right _ _ later.1)
