-- How a number is spelled (our own format; docs/FORMATS.md): `0x` and 1 to 16 hexadecimal digits, or 1 to 20 decimal
-- digits, below 2 to the 64.
use Rattle.std.specs.Prelude.{ℕ, ◌+◌, ◌-◌, ◌*◌, ◌^◌, ◌&&◌, List, [], ◌∷◌, length, drop, Option, Some, None, option_and_then, Bool, nat_lt, nat_le, nat_eq, codes, if◌then◌else◌}
use Rattle.std.specs.List.{starts_with}

-- the number is from low to high
abbrev pub between : ℕ → ℕ → ℕ → Bool
between low high n = nat_le low n && nat_le n high

-- the value of a character as a decimal digit
abbrev pub decimal_digit : ℕ → Option ℕ
decimal_digit c = if between 48 57 c then Some (c - 48) else None

-- the value of a character as a hexadecimal digit of either case
abbrev pub hex_digit : ℕ → Option ℕ
hex_digit c =
    if between 48 57 c then Some (c - 48) else
    (if between 97 102 c then Some (c - 87) else
    (if between 65 70 c then Some (c - 55) else None))

-- the value of digits after others
abbrev pub value_after : (ℕ → Option ℕ) → ℕ → ℕ → List ℕ → Option ℕ
value_after digit radix before [] = Some before
value_after digit radix before (c ∷ rest) =
    option_and_then (λ d. value_after digit radix (before * radix + d) rest) (digit c)

-- a value below 2 to the 64
abbrev pub if_64_bits : ℕ → Option ℕ
if_64_bits n = if nat_lt n (2 ^ 64) then Some n else None

-- the value of 1 up to so many digits
abbrev pub value_of : (ℕ → Option ℕ) → ℕ → ℕ → List ℕ → Option ℕ
value_of digit radix most word =
    if between 1 most (length word) then option_and_then if_64_bits (value_after digit radix 0 word) else None

-- the number that a word spells
unfoldable pub number_of : List ℕ → Option ℕ
number_of word =
    if starts_with nat_eq word (codes "0x") then value_of hex_digit 16 16 (drop 2 word) else value_of decimal_digit 10 20 word
