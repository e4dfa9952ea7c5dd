-- The union of two sets, interval by interval.
use Rattle.std.proofs.Common.{◌≡◌, ℕ, ◌+◌, ◌<◌, ◌≤◌, Bool, true, false, List, [], ◌∷◌, ◌++◌, length, get_or, drop, refl, sym, ap, ◌∙◌, arith, subst}
use Rattle.std.specs.Prelude.{◌||◌, ◌==◌}
use Rattle.std.proofs.lemmas.List.{drop_more, drop_all}
use Rattle.std.proofs.lemmas.Bool.Decides.{nat_tests}
use Rattle.time_sets.specs.Sets.{is_within, has_time, AreApartFrom}
use Rattle.time_sets.specs.Ends.{CanFollow}
use Rattle.time_sets.specs.Unions.{IsAbsorbed, ComesFirst}
use Rattle.time_sets.proofs.IntervalLists.{follow-greater, follow-more, follow-apart, apart-lower, has-append}

-- the union so far: the first i intervals of one and the first j of the other are done with
pub record IsJoined (one other all : List (ℕ × ℕ)) (growing : ℕ × ℕ) (i j : ℕ) : Type 0 where
  pub one_within : i ≤ length one
  pub other_within : j ≤ length other
  pub members : (t : ℕ) → ((has_time all t || is_within growing t) || (has_time (drop i one) t || has_time (drop j other) t)) ≡ (has_time one t || has_time other t)
  pub order : growing.0 ≤ growing.1
  pub follow : CanFollow all growing.0
  pub one_apart : AreApartFrom growing.0 (drop i one)
  pub other_apart : AreApartFrom growing.0 (drop j other)

or_first : (a o n r s : Bool) → ((a || (o || n)) || (r || s)) ≡ ((a || o) || ((n || r) || s))
or_first true o n r s = refl
or_first false true n r s = refl
or_first false false n r s = grind arith

or_second : (a o n r s : Bool) → ((a || (o || n)) || (r || s)) ≡ ((a || o) || (r || (n || s)))
or_second true o n r s = refl
or_second false true n r s = refl
or_second false false true true s = refl
or_second false false true false s = refl
or_second false false false r s = refl

module _ (one other all more : List (ℕ × ℕ)) (growing now : ℕ × ℕ) (i j : ℕ) (d : ℕ × ℕ) (joined : IsJoined one other all growing i j) where
  pub joined-one : ComesFirst one i other j → IsAbsorbed all growing (get_or one i d) more now → IsJoined one other more now (i + 1) j
  joined-one first absorbed =
      let is : drop i one ≡ get_or one i d ∷ drop (i + 1) one = drop_more one i d first.within in
      let head : AreApartFrom growing.0 (get_or one i d ∷ drop (i + 1) one) = subst (AreApartFrom growing.0) is joined.one_apart in
      let before : (t : ℕ) → ((has_time all t || is_within growing t) || (has_time (get_or one i d ∷ drop (i + 1) one) t || has_time (drop j other) t)) ≡ (has_time one t || has_time other t) = λ t. rw is at (joined.members t) in
      let from : AreApartFrom (get_or one i d).0 (drop j other) = first.first d growing.0 joined.other_apart in
      record {
        one_within = let w = first.within in omega arith;
        other_within = joined.other_within;
        members = λ t.
            ap (λ x. x || (has_time (drop (i + 1) one) t || has_time (drop j other) t)) (absorbed.members t)
            ∙ (or_first (has_time all t) (is_within growing t) (is_within (get_or one i d) t) (has_time (drop (i + 1) one) t) (has_time (drop j other) t) ∙ before t);
        order = absorbed.order;
        follow = absorbed.follow joined.follow;
        one_apart = apart-lower _ _ _ (omega (arith, absorbed.low, head.1)) head.2;
        other_apart = apart-lower _ _ _ absorbed.low from;
      }

  pub joined-other : ComesFirst other j one i → IsAbsorbed all growing (get_or other j d) more now → IsJoined one other more now i (j + 1)
  joined-other first absorbed =
      let is : drop j other ≡ get_or other j d ∷ drop (j + 1) other = drop_more other j d first.within in
      let head : AreApartFrom growing.0 (get_or other j d ∷ drop (j + 1) other) = subst (AreApartFrom growing.0) is joined.other_apart in
      let before : (t : ℕ) → ((has_time all t || is_within growing t) || (has_time (drop i one) t || has_time (get_or other j d ∷ drop (j + 1) other) t)) ≡ (has_time one t || has_time other t) = λ t. rw is at (joined.members t) in
      let from : AreApartFrom (get_or other j d).0 (drop i one) = first.first d growing.0 joined.one_apart in
      record {
        one_within = joined.one_within;
        other_within = let w = first.within in omega arith;
        members = λ t.
            ap (λ x. x || (has_time (drop i one) t || has_time (drop (j + 1) other) t)) (absorbed.members t)
            ∙ (or_second (has_time all t) (is_within growing t) (is_within (get_or other j d) t) (has_time (drop i one) t) (has_time (drop (j + 1) other) t) ∙ before t);
        order = absorbed.order;
        follow = absorbed.follow joined.follow;
        one_apart = apart-lower _ _ _ absorbed.low from;
        other_apart = apart-lower _ _ _ (omega (arith, absorbed.low, head.1)) head.2;
      }

or_assoc : (a b c : Bool) → ((a || b) || c) ≡ (a || (b || c))
or_assoc true b c = refl
or_assoc false b c = refl

or_nil : (a : Bool) → (a || false) ≡ a
or_nil true = refl
or_nil false = refl

-- the next interval lies apart, so the one before is done
pub absorbed-apart : (all : List (ℕ × ℕ)) (growing next : ℕ × ℕ) → growing.1 + 2 ≤ next.0 → growing.0 ≤ growing.1 → next.0 ≤ next.1 → IsAbsorbed all growing next (all ++ growing ∷ []) next
absorbed-apart all growing next apart order next_order = record {
  members = λ t.
      ap (λ x. x || is_within next t) (has-append all (growing ∷ []) t ∙ ap (λ x. has_time all t || x) (or_nil (is_within growing t)))
      ∙ or_assoc (has_time all t) (is_within growing t) (is_within next t);
  low = omega arith;
  order = next_order;
  follow = λ follow. follow-greater _ _ _ apart (follow-more all growing.0 growing follow (omega arith) order);
}

-- at the start one of the two first intervals grows
one_of : (a b c : Bool) → (a ≡ true → b || c ≡ true) → (a || (b || c)) ≡ (b || c)
one_of true b c h = sym (h refl)
one_of false b c h = refl

pub joined-first : (one other : List (ℕ × ℕ)) (growing : ℕ × ℕ) → AreApartFrom 0 one → AreApartFrom 0 other → ((t : ℕ) → is_within growing t ≡ true → has_time one t || has_time other t ≡ true) → growing.0 ≤ growing.1
    → AreApartFrom growing.0 one → AreApartFrom growing.0 other → IsJoined one other [] growing 0 0
joined-first one other growing one_apart other_apart within order from_one from_other = record {
  one_within = omega arith;
  other_within = omega arith;
  members = λ t. one_of (is_within growing t) (has_time one t) (has_time other t) (within t);
  order = order;
  follow = record { onward = λ more a. apart-lower _ _ _ (omega arith) a };
  one_apart = from_one;
  other_apart = from_other;
}

or_left : (a b c : Bool) → a ≡ true → (a || b) || c ≡ true
or_left true b c h = refl
or_left false b c h = absurd (cc)

or_middle : (a b c : Bool) → b ≡ true → a || (b || c) ≡ true
or_middle true b c h = refl
or_middle false true c h = refl
or_middle false false c h = absurd (cc)

pub first-one : (one other : List (ℕ × ℕ)) (d : ℕ × ℕ) → AreApartFrom 0 one → AreApartFrom 0 other → 0 < length one → 0 < length other → (get_or one 0 d).0 ≤ (get_or other 0 d).0 → IsJoined one other [] (get_or one 0 d) 0 0
first-one [] other d sa oa s o h = absurd (omega arith)
first-one (a ∷ one) [] d sa oa s o h = absurd (omega arith)
first-one (a ∷ one) (b ∷ other) d sa oa s o h =
    joined-first (a ∷ one) (b ∷ other) a sa oa (λ t w. or_left (is_within a t) (has_time one t) (has_time (b ∷ other) t) w) sa.1 (omega arith, sa.1, sa.2) (h, oa.1, oa.2)

pub first-other : (one other : List (ℕ × ℕ)) (d : ℕ × ℕ) → AreApartFrom 0 one → AreApartFrom 0 other → 0 < length one → 0 < length other → (get_or other 0 d).0 < (get_or one 0 d).0 → IsJoined one other [] (get_or other 0 d) 0 0
first-other [] other d sa oa s o h = absurd (omega arith)
first-other (a ∷ one) [] d sa oa s o h = absurd (omega arith)
first-other (a ∷ one) (b ∷ other) d sa oa s o h =
    joined-first (a ∷ one) (b ∷ other) b sa oa (λ t w. or_middle (has_time (a ∷ one) t) (is_within b t) (has_time other t) w) oa.1 (omega arith, sa.1, sa.2) (omega arith, oa.1, oa.2)

-- where both lists are at their ends, the union is whole
pub joined-whole : (one other all : List (ℕ × ℕ)) (growing : ℕ × ℕ) (i j : ℕ) → IsJoined one other all growing i j → length one ≤ i → length other ≤ j
    → ((t : ℕ) → has_time (all ++ growing ∷ []) t ≡ (has_time one t || has_time other t)) × AreApartFrom 0 (all ++ growing ∷ [])
joined-whole one other all growing i j joined one_end other_end =
    let s : drop i one ≡ [] = drop_all i one one_end in
    let o : drop j other ≡ [] = drop_all j other other_end in (
      (λ t. has-append all (growing ∷ []) t ∙ (ap (λ x. has_time all t || x) (or_nil (is_within growing t)) ∙ (sym (or_nil (has_time all t || is_within growing t)) ∙ (rw (s, o) at (joined.members t))))),
      follow-apart _ _ (follow-more all growing.0 growing joined.follow (omega arith) joined.order),
    )

pub some-of_test : (list : List (ℕ × ℕ)) → (length list == 0) ≡ false → 0 < length list
some-of_test list h = grind (arith, nat_tests)
