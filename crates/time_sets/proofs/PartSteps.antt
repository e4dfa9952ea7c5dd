-- A part of a set added to another, interval by interval.
use Rattle.std.proofs.Common.{◌≡◌, ℕ, zero, suc, ◌+◌, ◌<◌, ◌≤◌, ◌&&◌, Bool, true, false, List, [], ◌∷◌, length, get_or, take, drop, refl, sym, ap, ◌∙◌, arith, subst}
use Rattle.std.specs.Prelude.{◌||◌, min, max, nat_le}
use Rattle.std.proofs.lemmas.Bool.Decides.{nat_tests}
use Rattle.std.proofs.lemmas.List.{drop_more, get_or-take, length-take-le, take-append-drop, take_more}
use Rattle.time_sets.specs.Sets.{is_within, has_time, AreApartFrom}
use Rattle.time_sets.proofs.IntervalLists.{apart-lower, has-append, has-below, has-last, both_within}
use Rattle.time_sets.proofs.Searches.{none-holds}

-- so far the numbers of the first intervals of the other set are added that lie in a range
pub record IsPartAdded (old other new : List (ℕ × ℕ)) (range : ℕ × ℕ) (number : ℕ) : Type 0 where
  pub members : (t : ℕ) → has_time new t ≡ (has_time old t || (is_within range t && has_time (take number other) t))
  pub onward : AreApartFrom 0 (drop number other)
  pub ends : (k : ℕ) (d : ℕ × ℕ) → number ≤ k → k < length other → range.0 ≤ (get_or other k d).1

and_none : (a b : Bool) → b ≡ false → (a && b) ≡ false
and_none true b h = h
and_none false b h = refl

none_and : (a b : Bool) → a ≡ false → (a && b) ≡ false
none_and a b h = rw h refl

or_nil : (a : Bool) → (a || false) ≡ a
or_nil true = refl
or_nil false = refl

apart-drop : (low n : ℕ) (list : List (ℕ × ℕ)) → AreApartFrom low list → AreApartFrom 0 (drop n list)
apart-drop low zero list apart = apart-lower low 0 list (omega arith) apart
apart-drop low (suc n) [] apart = tt
apart-drop low (suc n) (one ∷ rest) apart = apart-drop (one.1 + 2) n rest apart.2

-- the intervals that end before the range have nothing of it
pub part-none : (old other : List (ℕ × ℕ)) (range : ℕ × ℕ) (start : ℕ) → AreApartFrom 0 other → start ≤ length other
    → ((k : ℕ) (d : ℕ × ℕ) → 0 ≤ k → k < start → (get_or other k d).1 < range.0)
    → ((k : ℕ) (d : ℕ × ℕ) → start ≤ k → k < length other → range.0 ≤ (get_or other k d).1) → IsPartAdded old other old range start
part-none old other range start apart within before after = record {
  members = λ t. sym (ap (λ b. has_time old t || b) (nothing t (nat_le range.0 t) refl) ∙ or_nil (has_time old t));
  onward = apart-drop 0 start other apart;
  ends = after;
}
  where
    nothing : (t : ℕ) (b : Bool) → nat_le range.0 t ≡ b → (is_within range t && has_time (take start other) t) ≡ false
    nothing t true is = and_none (is_within range t) (has_time (take start other) t) (none-holds (take start other) t (λ k d low high.
        let size = length-take-le start other within in
        let early = before k d low (omega (arith, high, size)) in
        let same = get_or-take start other k d (omega (arith, high, size)) in
        let from : range.0 ≤ t = grind (arith, nat_tests, is) in
        rw same (omega (arith, early, from))))
    nothing t false is = none_and (is_within range t) (has_time (take start other) t) (grind (arith, nat_tests, is))

more_members : (a r m i : Bool) → ((a || (r && m)) || (i && r)) ≡ (a || (r && (m || i)))
more_members true r m i = refl
more_members false true true i = refl
more_members false true false true = refl
more_members false true false false = refl
more_members false false m true = refl
more_members false false m false = refl

module _ (old other new : List (ℕ × ℕ)) (range : ℕ × ℕ) (number : ℕ) (d : ℕ × ℕ) (part : IsPartAdded old other new range number) (within : number < length other) where
  abbrev pub next : ℕ × ℕ
  next = get_or other number d

  onward_is : AreApartFrom 0 (next ∷ drop (number + 1) other)
  onward_is = subst (AreApartFrom 0) (drop_more other number d within) part.onward

  pub part-more : (newer : List (ℕ × ℕ)) → ((t : ℕ) → has_time newer t ≡ (has_time new t || is_within (max next.0 range.0, min next.1 range.1) t)) → IsPartAdded old other newer range (number + 1)
  part-more newer added = record {
    members = λ t.
        added t ∙ (ap (λ b. has_time new t || b) (sym (both_within next range t)) ∙ (ap (λ b. b || (is_within next t && is_within range t)) (part.members t)
        ∙ (more_members (has_time old t) (is_within range t) (has_time (take number other) t) (is_within next t)
        ∙ ap (λ b. has_time old t || (is_within range t && b)) (sym (ap (λ list. has_time list t) (take_more other number d within) ∙ has-last (take number other) next t)))));
    onward = apart-lower (next.1 + 2) 0 (drop (number + 1) other) (omega arith) onward_is.2;
    ends = λ k e low high. part.ends k e (omega arith) high;
  }

  -- the next interval and those after it have nothing of the range
  pub part-whole : range.1 < next.0 → (t : ℕ) → has_time new t ≡ (has_time old t || (is_within range t && has_time other t))
  part-whole past t = part.members t ∙ ap (λ b. has_time old t || b) (same (nat_le t range.1) refl)
    where
      same : (b : Bool) → nat_le t range.1 ≡ b → (is_within range t && has_time (take number other) t) ≡ (is_within range t && has_time other t)
      same true is =
          let none : has_time (drop number other) t ≡ false =
          ap (λ list. has_time list t) (drop_more other number d within)
          ∙ has-below next.0 t (next ∷ drop (number + 1) other) (omega arith, onward_is.1, onward_is.2) (let until : t ≤ range.1 = grind (arith, nat_tests, is) in omega (arith, until, past)) in
          ap (λ b. is_within range t && b) (sym (ap (λ list. has_time list t) (sym (take-append-drop number other)) ∙ (has-append (take number other) (drop number other) t
          ∙ (ap (λ b. has_time (take number other) t || b) none ∙ or_nil (has_time (take number other) t)))))
      same false is =
          let out : is_within range t ≡ false = grind (arith, nat_tests, is) in
          none_and (is_within range t) (has_time (take number other) t) out ∙ sym (none_and (is_within range t) (has_time other t) out)
