-- Searches in lists of intervals: the first that doesn't end before a number is the only one that can hold it.
use Rattle.std.proofs.Common.{◌≡◌, ℕ, zero, suc, ◌+◌, ◌<◌, ◌≤◌, true, false, List, [], ◌∷◌, get_or, length, refl, arith}
use Rattle.std.specs.Prelude.{nat_le, nat_lt}
use Rattle.std.proofs.lemmas.Bool.Decides.{nat_tests}
use Rattle.std.specs.List.Sorted.{IsNonDecreasingBy}
use Rattle.time_sets.specs.Sets.{has_time, AreApartFrom}
use Rattle.time_sets.proofs.IntervalLists.{has-below}

pub less-of_test : (a b : ℕ) → nat_lt a b ≡ true → a < b
less-of_test a b is = grind (arith, nat_tests)

pub at_least-of_test : (a b : ℕ) → nat_lt a b ≡ false → b ≤ a
at_least-of_test a b is = grind (arith, nat_tests)

end-after : (low : ℕ) (list : List (ℕ × ℕ)) (k : ℕ) (d : ℕ × ℕ) → AreApartFrom low list → k < length list → low ≤ (get_or list k d).1
end-after low [] k d apart within = absurd (omega arith)
end-after low (i ∷ rest) zero d apart within = omega (arith, apart.0, apart.1)
end-after low (i ∷ rest) (suc k) d apart within =
    let later = end-after (i.1 + 2) rest k d apart.2 (omega arith) in omega (arith, apart.0, apart.1)

-- the ends ascend
pub apart-ascends : (low : ℕ) (list : List (ℕ × ℕ)) → AreApartFrom low list → IsNonDecreasingBy (λ one. one.1) list
apart-ascends low [] apart i j d order within = absurd (omega arith)
apart-ascends low (one ∷ rest) apart zero zero d order within = omega arith
apart-ascends low (one ∷ rest) apart zero (suc j) d order within =
    let later = end-after (one.1 + 2) rest j d apart.2 (omega arith) in omega arith
apart-ascends low (one ∷ rest) apart (suc i) zero d order within = absurd (omega arith)
apart-ascends low (one ∷ rest) apart (suc i) (suc j) d order within = apart-ascends (one.1 + 2) rest apart.2 i j d (omega arith) (omega arith)

-- no interval holds a number after which all end before it
pub none-holds : (list : List (ℕ × ℕ)) (t : ℕ) → ((k : ℕ) (d : ℕ × ℕ) → 0 ≤ k → k < length list → (get_or list k d).1 < t) → has_time list t ≡ false
none-holds [] t before = refl
none-holds (one ∷ rest) t before =
    let first : one.1 < t = before 0 one (omega arith) (omega arith) in
    let later : has_time rest t ≡ false = none-holds rest t (λ k d low high. before (suc k) d (omega arith) (omega arith)) in
    grind (arith, nat_tests, first, later)

-- where n intervals end before the number and the next doesn't, the next decides
pub next-decides : (low : ℕ) (list : List (ℕ × ℕ)) (t n : ℕ) (d : ℕ × ℕ) → AreApartFrom low list → ((k : ℕ) (d : ℕ × ℕ) → 0 ≤ k → k < n → (get_or list k d).1 < t) → n < length list → t ≤ (get_or list n d).1
    → has_time list t ≡ nat_le (get_or list n d).0 t
next-decides low [] t n d apart before within to = absurd (omega arith)
next-decides low (one ∷ rest) t zero d apart before within to =
    let later : has_time rest t ≡ false = has-below (one.1 + 2) t rest apart.2 (omega arith) in
    grind (arith, nat_tests, to, later)
next-decides low (one ∷ rest) t (suc n) d apart before within to =
    let first : one.1 < t = before 0 one (omega arith) (omega arith) in
    let later : has_time rest t ≡ nat_le (get_or rest n d).0 t = next-decides (one.1 + 2) rest t n d apart.2 (λ k d low high. before (suc k) d (omega arith) (omega arith)) (omega arith) to in
    grind (arith, nat_tests, first, later)
