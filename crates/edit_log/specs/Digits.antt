-- The digits of decimal and of hexadecimal numbers, and two or four of them.
use Rattle.std.specs.Prelude.{ℕ, ◌+◌, ◌*◌, Option, option_and_then, option_map}
use Rattle.edit_log.specs.Numbers.{decimal_digit, hex_digit}
use Rattle.edit_log.specs.declared.numbers.Radix.{Radix}
use Rattle.edit_log.specs.declared.numbers.Radix.TheVariants.{Decimal, Hexadecimal}

-- how many digits there are
abbrev pub base_of : Radix → ℕ
base_of Decimal = 10
base_of Hexadecimal = 16

-- the value of a character as a digit
abbrev pub digit_in : Radix → ℕ → Option ℕ
digit_in Decimal character = decimal_digit character
digit_in Hexadecimal character = hex_digit character

-- the value of four hexadecimal digits
abbrev pub four_of : ℕ → ℕ → ℕ → ℕ → Option ℕ
four_of a b c d =
    option_and_then (λ w. option_and_then (λ x. option_and_then (λ y. option_map (λ z. 4096 * w + 256 * x + 16 * y + z)
    (hex_digit d)) (hex_digit c)) (hex_digit b)) (hex_digit a)

-- the byte of a pair
abbrev pub byte_of : ℕ → ℕ → Option ℕ
byte_of high low = option_and_then (λ h. option_map (λ l. 16 * h + l) (hex_digit low)) (hex_digit high)
