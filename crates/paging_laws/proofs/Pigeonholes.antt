-- Distinct members of a list are no more than the list has.
use Rattle.std.proofs.Common.{◌≡◌, ℕ, ◌≤◌, inl, inr, List, [], ◌∷◌, ◌++◌, length, refl, sym, ap, subst, arith, length-append}
use Rattle.paging_model.specs.Counting.{IsIn, AreDistinct, AreSome, AreAll, AtLeast, Count, MoreThan, AtMost}
use Rattle.paging_model.specs.Memory.{Memory}
use Rattle.paging_model.specs.TableUses.{IsTooLarge, IsWithinLimits}
use Rattle.paging_model.specs.declared.registers.Settings.{Settings}

module _ {Thing : Type 0} where
  split_at : (thing : Thing) (things : List Thing) → IsIn thing things
      → (before : List Thing) × (after : List Thing) × (things ≡ before ++ thing ∷ after)
  split_at thing [] is_in = absurd is_in
  split_at thing (one ∷ rest) (inl is_one) = ([], rest, ap (λ first. first ∷ rest) (sym is_one))
  split_at thing (one ∷ rest) (inr is_in) =
      let parts : (before : List Thing) × (after : List Thing) × (rest ≡ before ++ thing ∷ after) = split_at thing rest is_in in
      (one ∷ parts.0, parts.1, ap (λ more. one ∷ more) parts.2)

  in_the_rest : (before after : List Thing) (thing other : Thing) → IsIn other (before ++ thing ∷ after)
      → (other ≡ thing → ⊥) → IsIn other (before ++ after)
  in_the_rest [] after thing other (inl is_it) differs = absurd (differs is_it)
  in_the_rest [] after thing other (inr is_in) differs = is_in
  in_the_rest (one ∷ before) after thing other (inl is_it) differs = inl is_it
  in_the_rest (one ∷ before) after thing other (inr is_in) differs = inr (in_the_rest before after thing other is_in differs)

  pub distinct_are_no_more : (some all : List Thing) → AreDistinct some
      → ((thing : Thing) → IsIn thing some → IsIn thing all) → length some ≤ length all
  distinct_are_no_more [] all distinct among = omega arith
  distinct_are_no_more (one ∷ rest) all distinct among =
      let parts : (before : List Thing) × (after : List Thing) × (all ≡ before ++ one ∷ after) = split_at one all (among one (inl refl)) in
      let fewer : length rest ≤ length (parts.0 ++ parts.1) =
      distinct_are_no_more rest (parts.0 ++ parts.1) distinct.1
      (λ thing is_in. in_the_rest parts.0 parts.1 one thing (subst (λ whole. IsIn thing whole) parts.2 (among thing (inr is_in)))
      (λ is_one. distinct.0 (subst (λ it. IsIn it rest) is_one is_in))) in
      omega (arith, ap length parts.2, length-append parts.0 (one ∷ parts.1), length-append parts.0 parts.1)

module _ {Thing : Type 0} {Has : Thing → Type 0} where
  -- some things that have a property are no more than all that have it
  pub some_are_no_more : (some all : List Thing) → AreSome Has some → AreAll Has all → length some ≤ length all
  some_are_no_more some all are_some are_all =
      distinct_are_no_more some all are_some.distinct (λ thing is_in. are_all.all thing (are_some.have thing is_in))

  -- one number at most says how many have it
  pub count_is_one : {m n : ℕ} → Count Has m → Count Has n → m ≡ n
  count_is_one one other =
      let up = some_are_no_more one.things other.things one.all.some other.all in
      let down = some_are_no_more other.things one.things other.all.some one.all in
      omega (arith, one.many, other.many)

  -- where all are counted, at least so many have the property exactly up to their number
  pub at_least-count : {m n : ℕ} → Count Has n → AtLeast m Has → m ≤ n
  at_least-count count some =
      let within = some_are_no_more some.things count.things some.some count.all in
      omega (arith, count.many, some.many)

  pub count-at_least : {m n : ℕ} → Count Has n → m ≤ n → AtLeast m Has
  count-at_least count within =
      record { things = count.things; some = count.all.some; many = omega (arith, count.many) }

  pub more_than_at_most : {n : ℕ} → MoreThan n Has → AtMost n Has → ⊥
  more_than_at_most more most =
      let few = some_are_no_more more.things most.things more.some most.all in
      omega (arith, more.many, most.many)

pub too_large_within_limits : (memory : Memory) (settings : Settings) (root : ℕ)
    → IsTooLarge memory settings root → IsWithinLimits memory settings root → ⊥
too_large_within_limits memory settings root (inl uses) within = more_than_at_most uses within.uses
too_large_within_limits memory settings root (inr leaves) within = more_than_at_most leaves within.leaves
