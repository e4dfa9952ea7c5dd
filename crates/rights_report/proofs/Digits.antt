-- The digits of a number, the last one taken off.
use Rattle.std.proofs.Common.{◌≡◌, ℕ, zero, suc, ◌+◌, ◌-◌, ◌*◌, ◌/◌, ◌%◌, ◌^◌, ◌<◌, ◌≤◌, Bool, true, false, if◌then◌else◌, ◌==◌, List, [], ◌∷◌, ◌++◌, ◌≢◌, refl, sym, ap, subst, ◌∙◌, arith, append_assoc, length, drop, slice_set}
use Rattle.std.proofs.Math.Nat.{pow-le-pow_left, pow-zero}
use Rattle.std.proofs.lemmas.Nat.{div_below, pow-add}
use Rattle.std.proofs.lemmas.Grind.{pow_more}
use Rattle.std.proofs.lemmas.List.{drop-set}
use Rattle.std.proofs.lemmas.Bool.Decides.{nat_tests}
use Rattle.std.specs.Fmt.{digit_glyph, digits, digits_onto}

module _ (d : ℕ) where
  after-either : (b : Bool) (rest : List ℕ → List ℕ) (acc : List ℕ) → ((xs : List ℕ) → rest xs ≡ rest [] ++ xs)
      → (if b then d ∷ acc else rest (d ∷ acc)) ≡ (if b then d ∷ [] else rest (d ∷ [])) ++ acc
  after-either true rest acc all = refl
  after-either false rest acc all =
      all (d ∷ acc) ∙ sym (append_assoc (rest []) (d ∷ []) acc) ∙ ap (λ xs. xs ++ acc) (sym (all (d ∷ [])))

-- what stands after stays
onto-after : (base k n : ℕ) (acc : List ℕ) → digits_onto k base false n acc ≡ digits_onto k base false n [] ++ acc
onto-after base zero n acc = refl
onto-after base (suc k) n acc =
    after-either (digit_glyph false (n % base)) (n / base == 0) (digits_onto k base false (n / base)) acc
    (onto-after base k (n / base))

same-either : (b : Bool) (xs ys zs : List ℕ) → (b ≡ false → ys ≡ zs) → (if b then xs else ys) ≡ (if b then xs else zs)
same-either true xs ys zs same = refl
same-either false xs ys zs same = same refl

-- the number without its last digit has a place less
pub fewer : (base n k : ℕ) → 0 < base → n < base ^ (k + 1) → n / base < base ^ k
fewer base n k some small = div_below n base (base ^ k) some (omega (arith, small, pow_more base k))

-- places for more digits than there are change nothing
onto-enough : (base k n : ℕ) (acc : List ℕ) → 0 < base → n < base ^ (k + 1)
    → digits_onto (suc (suc k)) base false n acc ≡ digits_onto (suc k) base false n acc
onto-enough base zero n acc some small =
    same-either (n / base == 0) _ _ _ (λ more. absurd (grind (arith, nat_tests, none, more)))
  where
    none : n / base ≡ 0
    none = omega (arith, fewer base n 0 some small, pow-zero base)
onto-enough base (suc k) n acc some small =
    same-either (n / base == 0) _ _ _ (λ _. onto-enough base k (n / base) _ some less)
  where
    less : n / base < base ^ (k + 1)
    less = fewer base n (k + 1) some (subst (λ j. n < base ^ j) {x = suc k + 1} {y = k + 1 + 1} (omega arith) small)

-- a number of one digit
pub digits-one : (base n : ℕ) → n / base ≡ 0 → digits base false n ≡ digit_glyph false (n % base) ∷ []
unfolding digits
digits-one base n none =
    ap (λ (b : Bool). if b then digit_glyph false (n % base) ∷ [] else digits_onto 63 base false (n / base) (digit_glyph false (n % base) ∷ []))
    {x = n / base == 0} {y = true} (grind (arith, nat_tests, none))

-- 64 bits have at most 20 digits
pub few-digits : (base n k : ℕ) → 10 ≤ base → n < 2 ^ 64 → k ≡ 20 → n < base ^ k
few-digits base n k least small is =
    subst (λ j. n < base ^ j) (sym is) (omega (arith, small, pow-le-pow_left least 20))

-- a number that isn't 0 has a place
pub some-place : (base n k : ℕ) → n < base ^ k → n ≢ 0 → 0 < k
some-place base n zero small some = absurd (some (omega (arith, small, pow-zero base)))
some-place base n (suc k) small some = omega arith

-- a number of more digits
pub digits-more : (base n : ℕ) → 10 ≤ base → n < 2 ^ 64 → 0 < n / base
    → digits base false n ≡ digits base false (n / base) ++ digit_glyph false (n % base) ∷ []
unfolding digits
digits-more base n least small some =
    step ∙ onto-after base 63 (n / base) _
    ∙ ap (λ xs. xs ++ digit_glyph false (n % base) ∷ []) (sym (onto-enough base 62 (n / base) [] (omega arith) less))
  where
    large : n < base ^ 64
    large = omega (arith, small, pow-le-pow_left least 64)

    less : n / base < base ^ 63
    less = fewer base n 63 (omega arith) large

    step : digits_onto 64 base false n [] ≡ digits_onto 63 base false (n / base) (digit_glyph false (n % base) ∷ [])
    step =
        ap (λ (b : Bool). if b then digit_glyph false (n % base) ∷ [] else digits_onto 63 base false (n / base) (digit_glyph false (n % base) ∷ []))
        {x = n / base == 0} {y = false} (grind (arith, nat_tests, some))

module _ (base n at code : ℕ) (bytes : List ℕ) (some : 1 ≤ at) (within : at ≤ length bytes) (is : code ≡ digit_glyph false (n % base)) where
  put-digit : drop (at - 1) (slice_set bytes (at - 1) code) ≡ digit_glyph false (n % base) ∷ drop at bytes
  put-digit =
      drop-set bytes (at - 1) code (omega (arith, some, within))
      ∙ ap (λ c. c ∷ drop (at - 1 + 1) bytes) is
      ∙ ap (λ i. digit_glyph false (n % base) ∷ drop i bytes) {x = at - 1 + 1} {y = at} (omega (arith, some))

  -- a digit is put before those that stand, and others are left
  pub digit-put : 10 ≤ base → n < 2 ^ 64 → n / base ≢ 0
      → digits base false (n / base) ++ drop (at - 1) (slice_set bytes (at - 1) code) ≡ digits base false n ++ drop at bytes
  digit-put least small more =
      ap (λ xs. digits base false (n / base) ++ xs) put-digit
      ∙ sym (append_assoc (digits base false (n / base)) (digit_glyph false (n % base) ∷ []) (drop at bytes))
      ∙ ap (λ xs. xs ++ drop at bytes) (sym (digits-more base n least small (grind (arith, more))))

  -- the first digit is put
  pub first-digit-put : n / base ≡ 0
      → drop (at - 1) (slice_set bytes (at - 1) code) ≡ digits base false n ++ drop at bytes
  first-digit-put none = put-digit ∙ ap (λ xs. xs ++ drop at bytes) (sym (digits-one base n none))
