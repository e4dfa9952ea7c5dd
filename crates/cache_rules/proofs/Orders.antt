-- Lists that ascend by a number of each element.
use Rattle.std.proofs.Common.{◌≡◌, ℕ, zero, suc, ◌+◌, ◌<◌, ◌≤◌, List, [], ◌∷◌, ◌++◌, length, get_or, drop, map, arith}
use Rattle.std.specs.List.{All, AllWithin}
use Rattle.std.specs.List.Sorted.{IsNonDecreasingBy}
use Rattle.std.specs.Prelude.{nat_le, nat_lt, true, false}
use Rattle.std.proofs.lemmas.List.Elements.{All-tail}
use Rattle.std.proofs.lemmas.Bool.Decides.{nat_tests}
use Rattle.cache_rules.specs.Removals.{AreAscending}

pub less-of_test : (a b : ℕ) → nat_lt a b ≡ true → a < b
less-of_test a b is = grind (arith, nat_tests)

pub at_least-of_test : (a b : ℕ) → nat_lt a b ≡ false → b ≤ a
at_least-of_test a b is = grind (arith, nat_tests)

pub at_most-of_test : (a b : ℕ) → nat_le a b ≡ true → a ≤ b
at_most-of_test a b is = grind (arith, nat_tests)

pub greater-of_test : (a b : ℕ) → nat_le a b ≡ false → b < a
greater-of_test a b is = grind (arith, nat_tests)

module _ {X : Type 0} (n : X → ℕ) where
  -- each is at least where the list begins
  pub ascending-least : (low : ℕ) (xs : List X) (k : ℕ) (d : X) → AreAscending low (map n xs) → k < length xs → low ≤ n (get_or xs k d)
  ascending-least low [] k d ascending within = absurd (omega arith)
  ascending-least low (x ∷ xs) zero d ascending within = ascending.0
  ascending-least low (x ∷ xs) (suc k) d ascending within =
      let later = ascending-least (n x + 1) xs k d ascending.1 (omega arith) in
      omega (arith, ascending.0)

  pub ascending-sorted : (low : ℕ) (xs : List X) → AreAscending low (map n xs) → IsNonDecreasingBy n xs
  ascending-sorted low [] ascending i j d order within = absurd (omega arith)
  ascending-sorted low (x ∷ xs) ascending zero zero d order within = omega arith
  ascending-sorted low (x ∷ xs) ascending zero (suc j) d order within =
      let later = ascending-least (n x + 1) xs j d ascending.1 (omega arith) in omega arith
  ascending-sorted low (x ∷ xs) ascending (suc i) zero d order within = absurd (omega arith)
  ascending-sorted low (x ∷ xs) ascending (suc i) (suc j) d order within =
      ascending-sorted (n x + 1) xs ascending.1 i j d (omega arith) (omega arith)

  -- a list from the place on from which each number is greater than another one
  pub ascending-after : (low : ℕ) (xs : List X) (place t : ℕ) → AreAscending low (map n xs)
      → AllWithin (λ x. t < n x) xs place (length xs) → AreAscending (t + 1) (map n (drop place xs))
  ascending-after low [] zero t ascending after = tt
  ascending-after low [] (suc place) t ascending after = tt
  ascending-after low (x ∷ xs) zero t ascending after =
      let first = after 0 x (omega arith) (omega arith) in (omega arith, ascending.1)
  ascending-after low (x ∷ xs) (suc place) t ascending after =
      ascending-after (n x + 1) xs place t ascending.1 (λ k d from to. after (suc k) d (omega arith) (omega arith))

  -- one more at the end
  pub ascending-last : (low t : ℕ) (xs : List X) (y : X) → AreAscending low (map n xs) → All (λ u. u < t) (map n xs) → low ≤ t → n y ≡ t
      → AreAscending low (map n (xs ++ y ∷ []))
  ascending-last low t [] y ascending below from is = (omega arith, tt)
  ascending-last low t (x ∷ xs) y ascending below from is =
      let first : n x < t = below 0 0 (omega arith) in
      (ascending.0, ascending-last (n x + 1) t xs y ascending.1 (All-tail (λ u. u < t) (n x) (map n xs) below) (omega arith) is)
