-- The value of digits, one after another or four at once, while there is room for all of them.
use Rattle.std.proofs.Common.{◌≡◌, ℕ, suc, ◌+◌, ◌-◌, ◌*◌, ◌^◌, ◌<◌, ◌≤◌, List, [], ◌∷◌, ◌++◌, length, drop, take, get_or, refl, arith, sym, ap, ◌∙◌}
use Rattle.std.proofs.lemmas.Bool.Decides.{nat_tests}
use Rattle.std.proofs.lemmas.Grind.{common_steps}
use Rattle.std.proofs.Math.Nat.{mul-le-mul_left, pow-suc, pow-zero, pow-le-pow_right}
use Rattle.std.proofs.Math.Pow.{pow-add}
use Rattle.std.proofs.lemmas.List.{take-append-drop}
use Rattle.std.specs.Prelude.{Option, Some, None, option_and_then, option_map, unwrap_or, IfSome, true, false, if◌then◌else◌}
use Rattle.edit_log.specs.Numbers.{value_after, value_of, if_64_bits, between, hex_digit}
use Rattle.edit_log.specs.Digits.{four_of}

-- one more digit, where `room` is what the digits after it multiply by
room-more : (value base digit room limit : ℕ) → digit < base → (value + 1) * (room * base) ≤ limit → (value * base + digit + 1) * room ≤ limit
room-more value base digit room limit below fits =
    let bound : value * base + digit + 1 ≤ (value + 1) * base = omega arith in
    omega (arith, mul-le-mul_left room bound)

-- what has room for more digits has room itself
room-here : (value room limit : ℕ) → 0 < room → (value + 1) * room ≤ limit → value < limit
room-here value room limit some fits = let whole : (value + 1) * 1 ≤ (value + 1) * room = mul-le-mul_left (value + 1) some in omega (arith, whole)

power-some : (base n : ℕ) → 0 < base → 0 < base ^ n
power-some base n some = let low : 0 ≤ n = omega arith in let least : base ^ 0 ≤ base ^ n = pow-le-pow_right some low in rw pow-zero at least

pub room-from : (base n most limit : ℕ) → 0 < base → n ≤ most → base ^ most ≤ limit → (0 + 1) * base ^ n ≤ limit
room-from base n most limit some few fits =
    let low : base ^ n ≤ base ^ most = pow-le-pow_right some few in omega (arith, low)

-- one of the digits that are left is read
pub digit-room : (value base digit size index : ℕ) → digit < base → index < size → (value + 1) * base ^ (size - index) ≤ 2 ^ 64
    → (value * base + digit + 1) * base ^ (size - (index + 1)) ≤ 2 ^ 64
digit-room value base digit size index below within fits =
    let left : size - index ≡ suc (size - (index + 1)) = omega arith in
    let power : base ^ (size - index) ≡ base ^ (size - (index + 1)) * base = ap (λ k. base ^ k) left ∙ pow-suc base (size - (index + 1)) in
    room-more value base digit (base ^ (size - (index + 1))) (2 ^ 64) below (rw power at fits)

pub digit-fits : (value base digit size index : ℕ) → digit < base → index < size → (value + 1) * base ^ (size - index) ≤ 2 ^ 64
    → value * base + digit < 2 ^ 64
digit-fits value base digit size index below within fits =
    room-here (value * base + digit) (base ^ (size - (index + 1))) (2 ^ 64) (power-some base (size - (index + 1)) (omega (arith, below)))
    (digit-room value base digit size index below within fits)

-- four of them
pub four-room : (value four size : ℕ) → four < 65536 → 4 ≤ size → (value + 1) * 16 ^ size ≤ 2 ^ 64
    → (value * 65536 + four + 1) * 16 ^ (size - 4) ≤ 2 ^ 64
four-room value four size below within fits =
    let left : size ≡ (size - 4) + 4 = omega arith in
    let power : 16 ^ size ≡ 16 ^ (size - 4) * 65536 = ap (λ k. 16 ^ k) left ∙ pow-add 16 (size - 4) 4 in
    room-more value 65536 four (16 ^ (size - 4)) (2 ^ 64) below (rw power at fits)

pub four-fits : (value four size : ℕ) → four < 65536 → 4 ≤ size → (value + 1) * 16 ^ size ≤ 2 ^ 64 → value * 65536 + four < 2 ^ 64
four-fits value four size below within fits =
    room-here (value * 65536 + four) (16 ^ (size - 4)) (2 ^ 64) (power-some 16 (size - 4) (omega arith)) (four-room value four size below within fits)

-- the value of digits by the first of them
drop_at : (xs : List ℕ) (i : ℕ) → i < length xs → drop i xs ≡ get_or xs i 0 ∷ drop (i + 1) xs
drop_at xs i within = grind (arith, common_steps)

pub value-next : (digit : ℕ → Option ℕ) (base value d : ℕ) (digits : List ℕ) (i : ℕ) → i < length digits → digit (get_or digits i 0) ≡ Some d
    → value_after digit base value (drop i digits) ≡ value_after digit base (value * base + d) (drop (i + 1) digits)
value-next digit base value d digits i within is =
    ap (value_after digit base value) (drop_at digits i within) ∙ ap (option_and_then (λ x. value_after digit base (value * base + x) (drop (i + 1) digits))) is

pub value-append : (digit : ℕ → Option ℕ) (base value : ℕ) (xs ys : List ℕ)
    → value_after digit base value (xs ++ ys) ≡ option_and_then (λ n. value_after digit base n ys) (value_after digit base value xs)
value-append digit base value [] ys = refl
value-append digit base value (c ∷ xs) ys =
    elim (digit c) as (λ o. option_and_then (λ d. value_after digit base (value * base + d) (xs ++ ys)) o
    ≡ option_and_then (λ n. value_after digit base n ys) (option_and_then (λ d. value_after digit base (value * base + d) xs) o)) [
      | None ↦ refl
      | Some d ↦ value-append digit base (value * base + d) xs ys
    ]

one-left : (xs : List ℕ) → 0 < length xs → length xs ≤ 1 → xs ≡ get_or xs 0 0 ∷ []
one-left [] some one = absurd (omega (arith, some))
one-left (x ∷ []) some one = refl
one-left (x ∷ y ∷ xs) some one = absurd (omega (arith, one))

pub value-split : (digit : ℕ → Option ℕ) (base middle : ℕ) (digits first last : List ℕ) → first ≡ take middle digits → last ≡ drop middle digits
    → value_after digit base 0 digits ≡ option_and_then (λ n. value_after digit base n last) (value_after digit base 0 first)
value-split digit base middle digits first last is_first is_last =
    rw (is_first, is_last) (ap (value_after digit base 0) (sym (take-append-drop middle digits)) ∙ value-append digit base 0 (take middle digits) (drop middle digits))

-- all digits but one have a value
pub value-last : (digit : ℕ → Option ℕ) (base middle n : ℕ) (digits first last : List ℕ) → first ≡ take middle digits → last ≡ drop middle digits
    → 0 < length last → length last ≤ 1 → Some n ≡ value_after digit base 0 first
    → value_after digit base 0 digits ≡ option_and_then (λ d. Some (n * base + d)) (digit (get_or last 0 0))
value-last digit base middle n digits first last is_first is_last some one is =
    value-split digit base middle digits first last is_first is_last
    ∙ ap (option_and_then (λ n. value_after digit base n last)) (sym is) ∙ ap (value_after digit base n) (one-left last some one)

-- digits without a value spell no number
pub no-value : (digit : ℕ → Option ℕ) (base most : ℕ) (word : List ℕ) → value_after digit base 0 word ≡ None → None ≡ value_of digit base most word
no-value digit base most word none = rw none (elim (between 1 most (length word)) as (λ b. ◌≡◌ {A = Option ℕ} None (if b then None else None)) [ true ↦ refl | false ↦ refl ])

-- so many digits that have a value spell it, where it has 64 bits
pub some-value : (digit : ℕ → Option ℕ) (base most n : ℕ) (word : List ℕ) → 0 < length word → length word ≤ most → value_after digit base 0 word ≡ Some n
    → if_64_bits n ≡ value_of digit base most word
some-value digit base most n word some few is =
    let counts : between 1 most (length word) ≡ true = grind (arith, nat_tests) in rw (is, counts) refl

-- two digits at once
abbrev two_in : Option ℕ → Option ℕ → Option ℕ
two_in o p = option_and_then (λ h. option_map (λ l. 16 * h + l) p) o

pub two-small : (o p : Option ℕ) → 16 * unwrap_or o 65536 + unwrap_or p 65536 < 256 → Some (16 * unwrap_or o 65536 + unwrap_or p 65536) ≡ two_in o p
two-small None p small = absurd (omega (arith, small))
two-small (Some h) None small = absurd (omega (arith, small))
two-small (Some h) (Some l) small = refl

pub two-great : (o p : Option ℕ) → IfSome o (λ digit. digit < 16) → IfSome p (λ digit. digit < 16)
    → 256 ≤ 16 * unwrap_or o 65536 + unwrap_or p 65536 → None ≡ two_in o p
two-great None p h l great = refl
two-great (Some o) None h l great = refl
two-great (Some o) (Some p) h l great = absurd (omega (arith, h, l, great))

-- four digits at once
abbrev four_in : Option ℕ → Option ℕ → Option ℕ → Option ℕ → Option ℕ
four_in o p q r =
    option_and_then (λ w. option_and_then (λ x. option_and_then (λ y. option_map (λ z. 4096 * w + 256 * x + 16 * y + z) r) q) p) o

abbrev sum_of : Option ℕ → Option ℕ → Option ℕ → Option ℕ → ℕ
sum_of o p q r = 4096 * unwrap_or o 65536 + 256 * unwrap_or p 65536 + 16 * unwrap_or q 65536 + unwrap_or r 65536

pub four-small : (o p q r : Option ℕ) → sum_of o p q r < 65536 → Some (sum_of o p q r) ≡ four_in o p q r
four-small None p q r small = absurd (omega arith)
four-small (Some w) None q r small = absurd (omega arith)
four-small (Some w) (Some x) None r small = absurd (omega arith)
four-small (Some w) (Some x) (Some y) None small = absurd (omega arith)
four-small (Some w) (Some x) (Some y) (Some z) small = refl

abbrev Below : Option ℕ → Type 0
Below o = IfSome o (λ digit. digit < 16)

pub four-great : (o p q r : Option ℕ) → Below o → Below p → Below q → Below r → 65536 ≤ sum_of o p q r → None ≡ four_in o p q r
four-great None p q r w x y z great = refl
four-great (Some o) None q r w x y z great = refl
four-great (Some o) (Some p) None r w x y z great = refl
four-great (Some o) (Some p) (Some q) None w x y z great = refl
four-great (Some o) (Some p) (Some q) (Some r) w x y z great = absurd (omega (arith, w, x, y, z, great))

four-after : (value : ℕ) (rest : List ℕ) (o p q r : Option ℕ)
    → option_and_then (λ w. option_and_then (λ x. option_and_then (λ y. option_and_then
    (λ z. value_after hex_digit 16 ((((value * 16 + w) * 16 + x) * 16 + y) * 16 + z) rest) r) q) p) o
    ≡ option_and_then (λ four. value_after hex_digit 16 (value * 65536 + four) rest) (four_in o p q r)
four-after value rest None p q r = refl
four-after value rest (Some w) None q r = refl
four-after value rest (Some w) (Some x) None r = refl
four-after value rest (Some w) (Some x) (Some y) None = refl
four-after value rest (Some w) (Some x) (Some y) (Some z) = ap (λ n. value_after hex_digit 16 n rest) (omega arith)

pub value-four : (value a b c d : ℕ) (rest : List ℕ)
    → value_after hex_digit 16 value (a ∷ b ∷ c ∷ d ∷ rest) ≡ option_and_then (λ four. value_after hex_digit 16 (value * 65536 + four) rest) (four_of a b c d)
value-four value a b c d rest = four-after value rest (hex_digit a) (hex_digit b) (hex_digit c) (hex_digit d)

-- the first four of a list
pub first_four : (xs : List ℕ) → 4 ≤ length xs → xs ≡ get_or xs 0 0 ∷ get_or xs 1 0 ∷ get_or xs 2 0 ∷ get_or xs 3 0 ∷ drop 4 xs
first_four [] long = absurd (omega (arith, long))
first_four (a ∷ []) long = absurd (omega (arith, long))
first_four (a ∷ b ∷ []) long = absurd (omega (arith, long))
first_four (a ∷ b ∷ c ∷ []) long = absurd (omega (arith, long))
first_four (a ∷ b ∷ c ∷ d ∷ xs) long = refl
