-- Which lines are drawn, and how lines follow.
use Rattle.std.proofs.Common.{◌≡◌, ◌≢◌, ℕ, ◌%◌, ◌==◌, Bool, true, false, if◌then◌else◌, refl, ◌∙◌, arith}
use Rattle.std.proofs.lemmas.Bool.Decides.{nat_tests}
use Rattle.image_gen.specs.GeneratedLog.{line_after, numbered_line}

-- a test that fails
fails : {A : Type 0} (b : Bool) (x y : A) → b ≡ false → (if b then x else y) ≡ y
fails true x y failed = absurd (cc)
fails false x y failed = refl

unequal : (n k : ℕ) → n ≢ k → (n == k) ≡ false
unequal n k other = grind (arith, nat_tests)

-- a line that isn't at one of the places of others is drawn
pub numbered-line-drawn : (number state : ℕ) → number % 1000 ≢ 0 → number % 1000 ≢ 1 → number % 1000 ≢ 2 → number % 1000 ≢ 500
    → numbered_line number state ≡ line_after state
numbered-line-drawn number state no-point no-first no-second no-list =
    fails (number % 1000 == 0) _ _ (unequal _ 0 no-point) ∙ fails (number % 1000 == 1) _ _ (unequal _ 1 no-first)
    ∙ fails (number % 1000 == 2) _ _ (unequal _ 2 no-second) ∙ fails (number % 1000 == 500) _ _ (unequal _ 500 no-list)
