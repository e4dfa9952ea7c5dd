-- Things in a list: what each of them has, and that none stands twice where their numbers ascend.
use Rattle.std.proofs.Common.{◌≡◌, ℕ, ◌<◌, ◌≤◌, ◌&&◌, Bool, true, false, inl, inr, List, [], ◌∷◌, length, refl, sym, subst, arith}
use Rattle.std.specs.Prelude.{nat_lt}
use Rattle.std.proofs.lemmas.Bool.Decides.{nat_tests}
use Rattle.paging_model.specs.Counting.{IsIn, AreDistinct, AtLeast}

pub both : (a b : Bool) → (a && b) ≡ true → (a ≡ true) × (b ≡ true)
both true b h = (refl, h)
both false b h = absurd (cc)

module _ {Thing : Type 0} where
  -- each thing of a list has a property
  abbrev pub EachOf : (Thing → Type 0) → List Thing → Type 0
  EachOf Has [] = Unit {0}
  EachOf Has (one ∷ rest) = Has one × EachOf Has rest

  pub each_in : (Has : Thing → Type 0) (things : List Thing) → EachOf Has things → (thing : Thing) → IsIn thing things → Has thing
  each_in Has [] each thing is_in = absurd is_in
  each_in Has (one ∷ rest) each thing (inl is) = subst (λ it. Has it) (sym is) each.0
  each_in Has (one ∷ rest) each thing (inr is_in) = each_in Has rest each.1 thing is_in

  -- a number is below those of all things
  abbrev pub is_below : (Thing → ℕ) → ℕ → List Thing → Bool
  is_below number n [] = true
  is_below number n (one ∷ rest) = nat_lt n (number one) && is_below number n rest

  -- the numbers of things ascend
  abbrev pub ascends : (Thing → ℕ) → List Thing → Bool
  ascends number [] = true
  ascends number (one ∷ rest) = is_below number (number one) rest && ascends number rest

  below_each : (number : Thing → ℕ) (n : ℕ) (things : List Thing) → is_below number n things ≡ true
      → (thing : Thing) → IsIn thing things → n < number thing
  below_each number n [] below thing is_in = absurd is_in
  below_each number n (one ∷ rest) below thing (inl is) =
      let parts : (nat_lt n (number one) ≡ true) × (is_below number n rest ≡ true) = both _ _ below in
      let less : n < number one = grind (arith, nat_tests) in
      subst (λ it. n < number it) (sym is) less
  below_each number n (one ∷ rest) below thing (inr is_in) =
      let parts : (nat_lt n (number one) ≡ true) × (is_below number n rest ≡ true) = both _ _ below in
      below_each number n rest parts.1 thing is_in

  distinct_by : (number : Thing → ℕ) (things : List Thing) → ascends number things ≡ true → AreDistinct things
  distinct_by number [] ascending = tt
  distinct_by number (one ∷ rest) ascending =
      let parts : (is_below number (number one) rest ≡ true) × (ascends number rest ≡ true) = both _ _ ascending in (
        λ is_in. let less : number one < number one = below_each number (number one) rest parts.0 one is_in in omega arith,
        distinct_by number rest parts.1,
      )

  -- so many things with ascending numbers have a property
  pub at_least : (Has : Thing → Type 0) (number : Thing → ℕ) (things : List Thing) (n : ℕ) → EachOf Has things
      → ascends number things ≡ true → n ≤ length things → AtLeast n Has
  at_least Has number things n each ascending many = record {
    things = things;
    some = record { have = each_in Has things each; distinct = distinct_by number things ascending };
    many = many;
  }
