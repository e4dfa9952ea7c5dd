-- A number is the one that its digits spell.
use Rattle.std.proofs.Common.{◌≡◌, ◌≢◌, ℕ, zero, suc, ◌+◌, ◌*◌, ◌/◌, ◌%◌, ◌^◌, ◌<◌, ◌≤◌, List, [], ◌∷◌, ◌++◌, length, drop, refl, arith, sym, ap, subst, ◌∙◌, inl, inr}
use Rattle.std.proofs.Math.Nat.{pow-zero}
use Rattle.std.proofs.lemmas.Bool.{cases_eq}
use Rattle.std.proofs.lemmas.Bool.Decides.{nat_tests}
use Rattle.std.proofs.lemmas.List.{length-append}
use Rattle.std.specs.Prelude.{Option, Some, None, option_and_then, codes, false, nat_eq, nat_lt, if◌then◌else◌}
use Rattle.std.specs.List.{starts_with, AllByRecursion}
use Rattle.std.specs.Fmt.{decimal, digits, digit_glyph}
use Rattle.edit_log.specs.Numbers.{decimal_digit, hex_digit, if_64_bits, number_of, value_after, value_of}
use Rattle.edit_log.proofs.Digits.{value-append, some-value}
use Rattle.rights_report.proofs.Digits.{digits-more, digits-one, few-digits, fewer}
use Rattle.rights_report.specs.Characters.{hexadecimal}

pub all-append : (P : ℕ → Type 0) (xs ys : List ℕ) → AllByRecursion P xs → AllByRecursion P ys → AllByRecursion P (xs ++ ys)
all-append P [] ys first second = second
all-append P (x ∷ xs) ys first second = (first.0, all-append P xs ys first.1 second)

-- a number of one digit, and one of more
module _ (base : ℕ) (least : 10 ≤ base) (Q : ℕ → List ℕ → Type 0)
    (one : (n : ℕ) → n / base ≡ 0 → Q n (digit_glyph false (n % base) ∷ []))
    (more : (n : ℕ) (before : List ℕ) → 0 < n / base → Q (n / base) before
    → Q n (before ++ digit_glyph false (n % base) ∷ [])) where
  by-one : (n : ℕ) → n / base ≡ 0 → Q n (digits base false n)
  by-one n none = subst (Q n) (sym (digits-one base n none)) (one n none)

  by-digits : (k n : ℕ) → n < 2 ^ 64 → n < base ^ k → Q n (digits base false n)
  by-digits zero n small fits = by-one n (omega (arith, least, fits, pow-zero base))
  by-digits (suc k) n small fits = elim (cases_eq (n / base) 0) [
    | inl none ↦ by-one n none
    | inr many ↦
        let some : 0 < n / base = omega (arith, many) in
        let room : n < base ^ (k + 1) = subst (λ j. n < base ^ j) {x = suc k} {y = k + 1} (omega arith) fits in
        let less : n / base < base ^ k = fewer base n k (omega (arith, least)) room in
        subst (Q n) (sym (digits-more base n least small some))
        (more n (digits base false (n / base)) some (by-digits k (n / base) (omega (arith, least, small)) less))
  ]

module _ (base : ℕ) (least : 10 ≤ base) where
  all-digits : (P : ℕ → Type 0) → ((d : ℕ) → d < base → P (digit_glyph false d)) → (k n : ℕ) → n < 2 ^ 64 → n < base ^ k
      → AllByRecursion P (digits base false n)
  all-digits P each = by-digits base least (λ n ds. AllByRecursion P ds) (λ n none. (last n, tt))
      (λ n before some all. all-append P before (digit_glyph false (n % base) ∷ []) all (last n, tt))
    where
      last : (n : ℕ) → P (digit_glyph false (n % base))
      last n = each (n % base) (omega (arith, least))

  few-more : (k n : ℕ) (before : List ℕ) (c : ℕ) → 0 < n / base → ((j : ℕ) → n / base < base ^ (j + 1) → length before ≤ j + 1)
      → n < base ^ (k + 1) → length (before ++ c ∷ []) ≤ k + 1
  few-more zero n before c some few fits = absurd (omega (arith, some, pow-zero base, fewer base n 0 (omega (arith, least)) fits))
  few-more (suc k) n before c some few fits =
      let first : n / base < base ^ suc k = fewer base n (suc k) (omega (arith, least)) fits in
      let less : n / base < base ^ (k + 1) = subst (λ j. n / base < base ^ j) {x = suc k} {y = k + 1} (omega arith) first in
      omega (arith, few k less, length-append before (c ∷ []))

  length-digits : (k n : ℕ) → n < 2 ^ 64 → n < base ^ (k + 1) → length (digits base false n) ≤ k + 1
  length-digits k n small fits = by-digits base least (λ n ds. (j : ℕ) → n < base ^ (j + 1) → length ds ≤ j + 1)
      (λ n none j fits. omega arith)
      (λ n before some few j fits. few-more j n before (digit_glyph false (n % base)) some few fits) (k + 1) n small fits k fits

  some-digits : (k n : ℕ) → n < 2 ^ 64 → n < base ^ k → 0 < length (digits base false n)
  some-digits = by-digits base least (λ n ds. 0 < length ds) (λ n none. omega arith)
      (λ n before some few. omega (arith, length-append before (digit_glyph false (n % base) ∷ [])))

  lone-value : (n : ℕ) → n / base ≡ 0 → 0 * base + n % base ≡ n
  lone-value n none = let high : base * (n / base) ≡ base * 0 = ap (λ q. base * q) none in omega (arith, least, high)

  value-digits : (digit : ℕ → Option ℕ) → ((d : ℕ) → d < base → digit (digit_glyph false d) ≡ Some d)
      → (k n : ℕ) → n < 2 ^ 64 → n < base ^ k
      → value_after digit base 0 (digits base false n) ≡ Some n
  value-digits digit glyphs = by-digits base least (λ n ds. value_after digit base 0 ds ≡ Some n)
      (λ n none. ap (option_and_then (λ d. Some (0 * base + d))) (last n) ∙ ap Some (lone-value n none))
      (λ n before some is.
      value-append digit base 0 before (digit_glyph false (n % base) ∷ [])
      ∙ ap (option_and_then (λ m. value_after digit base m (digit_glyph false (n % base) ∷ []))) is
      ∙ ap (option_and_then (λ d. Some (n / base * base + d))) (last n)
      ∙ ap Some (omega (arith, least)))
    where
      last : (n : ℕ) → digit (digit_glyph false (n % base)) ≡ Some (n % base)
      last n = glyphs (n % base) (omega (arith, least))

  number-digits : (digit : ℕ → Option ℕ) → ((d : ℕ) → d < base → digit (digit_glyph false d) ≡ Some d) → (most n limit : ℕ)
      → limit ≡ 2 ^ 64 → n < limit → n < base ^ (most + 1) → if_64_bits n ≡ value_of digit base (most + 1) (digits base false n)
  number-digits digit glyphs most n limit is small fits =
      let low : n < 2 ^ 64 = subst (λ b. n < b) is small in
      some-value digit base (most + 1) n (digits base false n) (some-digits (most + 1) n low fits) (length-digits most n low fits)
      (value-digits digit glyphs (most + 1) n low fits)

pub hex-glyph : (d : ℕ) → d < 16 → hex_digit (digit_glyph false d) ≡ Some d
hex-glyph d below = grind (arith, nat_tests, below)

decimal-glyph : (d : ℕ) → d < 10 → decimal_digit (digit_glyph false d) ≡ Some d
decimal-glyph d below = grind (arith, nat_tests, below)

-- neither a space nor an LF nor another control character
abbrev pub IsVisible : List ℕ → Type 0
IsVisible word = AllByRecursion (λ c. 33 ≤ c) word

pub visible-glyph : (d : ℕ) → 33 ≤ digit_glyph false d
visible-glyph d = grind (arith, nat_tests)

-- a number that is under a limit
pub under-limit : (limit n : ℕ) → n < limit → (if nat_lt n limit then Some n else None) ≡ Some n
under-limit limit n small = grind (arith, nat_tests, small)

other-glyph : (d : ℕ) → d < 10 → digit_glyph false d ≢ 120
other-glyph d below = grind (arith, nat_tests, below)

some-64 : (n : ℕ) → n < 2 ^ 64 → if_64_bits n ≡ Some n
some-64 n small = under-limit (2 ^ 64) n small

no-prefix : (word : List ℕ) → AllByRecursion (λ c. c ≢ 120) word → starts_with nat_eq word (codes "0x") ≡ false
no-prefix [] none = refl
no-prefix (c ∷ []) none = grind (arith, nat_tests)
no-prefix (c ∷ d ∷ word) none = let other = none.1.0 in grind (arith, nat_tests, other)

module _ (n : ℕ) (small : n < 2 ^ 64) where
  -- 64 bits have at most 20 decimal digits
  places : n < 10 ^ 20
  places = few-digits 10 n 20 (omega arith) small refl

  pub visible-hexadecimal : IsVisible (hexadecimal n)
  visible-hexadecimal =
      (omega arith, (omega arith, all-digits 16 (omega arith) (λ c. 33 ≤ c) (λ d _. visible-glyph d) 16 n small small))

  pub visible-decimal : IsVisible (decimal n)
  visible-decimal = all-digits 10 (omega arith) (λ c. 33 ≤ c) (λ d _. visible-glyph d) 20 n small places

  pub number-hexadecimal : number_of (hexadecimal n) ≡ Some n
  unfolding number_of
  number-hexadecimal = sym (number-digits 16 (omega arith) hex_digit hex-glyph 15 n (2 ^ 64) refl small small) ∙ some-64 n small

  decimal-digits : AllByRecursion (λ c. c ≢ 120) (decimal n)
  decimal-digits = all-digits 10 (omega arith) (λ c. c ≢ 120) other-glyph 20 n small places

  pub number-decimal : number_of (decimal n) ≡ Some n
  unfolding number_of
  number-decimal =
      ap (λ prefixed. if prefixed then value_of hex_digit 16 16 (drop 2 (decimal n)) else
      value_of decimal_digit 10 20 (decimal n)) (no-prefix (decimal n) decimal-digits)
      ∙ sym (number-digits 10 (omega arith) decimal_digit decimal-glyph 19 n (2 ^ 64) refl small places)
      ∙ some-64 n small

  pub length-hexadecimal : length (hexadecimal n) ≤ 18
  length-hexadecimal = omega (arith, length-digits 16 (omega arith) 15 n small small)

  pub length-decimal : length (decimal n) ≤ 20
  length-decimal = length-digits 10 (omega arith) 19 n small places
