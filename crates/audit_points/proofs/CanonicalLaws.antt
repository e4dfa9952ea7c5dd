-- The pages of the two halves are those of canonical addresses.
use Rattle.std.proofs.Common.{◌≡◌, ℕ, ◌+◌, ◌-◌, ◌*◌, ◌/◌, ◌%◌, ◌^◌, ◌<◌, ◌≤◌, ◌⊎◌, inl, inr, Bool, true, false, refl, arith}
use Rattle.std.specs.Prelude.{◌==◌, ◌||◌, ◌↔◌, if◌then◌else◌}
use Rattle.std.proofs.lemmas.Bool.Decides.{nat_tests}
use Rattle.paging_model.specs.BitRanges.{field}
use Rattle.paging_model.specs.LinearAddress.{IsPage}
use Rattle.stale_audit.specs.Tops.{IsTopPage}

ends-four : (x : ℕ) → x < 2 ^ 64 → (x / 2 ^ 47 % 2 ^ 17 ≡ 0) ⊎ (x / 2 ^ 47 % 2 ^ 17 ≡ 2 ^ 17 - 1) → (x < 256 * 2 ^ 39) ⊎ (2 ^ 64 ≤ x + 256 * 2 ^ 39)
ends-four x b (inl h) = inl (omega (arith, b, h))
ends-four x b (inr h) = inr (omega (arith, b, h))

four-ends : (x : ℕ) → x < 2 ^ 64 → (x < 256 * 2 ^ 39) ⊎ (2 ^ 64 ≤ x + 256 * 2 ^ 39) → (x / 2 ^ 47 % 2 ^ 17 ≡ 0) ⊎ (x / 2 ^ 47 % 2 ^ 17 ≡ 2 ^ 17 - 1)
four-ends x b (inl h) = inl (omega (arith, b, h))
four-ends x b (inr h) = inr (omega (arith, b, h))

ends-five : (x : ℕ) → x < 2 ^ 64 → (x / 2 ^ 56 % 2 ^ 8 ≡ 0) ⊎ (x / 2 ^ 56 % 2 ^ 8 ≡ 2 ^ 8 - 1) → (x < 256 * 2 ^ 48) ⊎ (2 ^ 64 ≤ x + 256 * 2 ^ 48)
ends-five x b (inl h) = inl (omega (arith, b, h))
ends-five x b (inr h) = inr (omega (arith, b, h))

five-ends : (x : ℕ) → x < 2 ^ 64 → (x < 256 * 2 ^ 48) ⊎ (2 ^ 64 ≤ x + 256 * 2 ^ 48) → (x / 2 ^ 56 % 2 ^ 8 ≡ 0) ⊎ (x / 2 ^ 56 % 2 ^ 8 ≡ 2 ^ 8 - 1)
five-ends x b (inl h) = inl (omega (arith, b, h))
five-ends x b (inr h) = inr (omega (arith, b, h))

true-either : (a b : ℕ) (c : ℕ) → (a == b || a == c) ≡ true → (a ≡ b) ⊎ (a ≡ c)
true-either a b c h = by_test (a == b) (a == c) refl refl h
  where
    by_test : (p q : Bool) → (a == b) ≡ p → (a == c) ≡ q → (p || q) ≡ true → (a ≡ b) ⊎ (a ≡ c)
    by_test true q e f g = inl (grind (arith, nat_tests, e))
    by_test false true e f g = inr (grind (arith, nat_tests, f))
    by_test false false e f g = absurd (cc)

either-true : (a b c : ℕ) → (a ≡ b) ⊎ (a ≡ c) → (a == b || a == c) ≡ true
either-true a b c (inl h) = let e : (a == b) ≡ true = grind (arith, nat_tests, h) in rw e refl
either-true a b c (inr h) = by_test (a == b) (a == c) (grind (arith, nat_tests, h))
  where
    by_test : (p q : Bool) → q ≡ true → (p || q) ≡ true
    by_test true q f = refl
    by_test false q f = f

pub top-pages : (la57 : Bool) (x : ℕ) → IsTopPage (if la57 then 5 else 4) x ↔ IsPage la57 x
top-pages false x = (
  (λ (p : IsTopPage 4 x). record { below = p.below; aligned = p.aligned; canonical = either-true (field x 63 47) 0 (2 ^ 17 - 1) (four-ends x p.below p.half) }),
  (λ (p : IsPage false x). record { below = p.below; aligned = p.aligned; half = ends-four x p.below (true-either (field x 63 47) 0 (2 ^ 17 - 1) p.canonical) }),
)
top-pages true x = (
  (λ (p : IsTopPage 5 x). record { below = p.below; aligned = p.aligned; canonical = either-true (field x 63 56) 0 (2 ^ 8 - 1) (five-ends x p.below p.half) }),
  (λ (p : IsPage true x). record { below = p.below; aligned = p.aligned; half = ends-five x p.below (true-either (field x 63 56) 0 (2 ^ 8 - 1) p.canonical) }),
)
