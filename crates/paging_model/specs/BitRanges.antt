-- Ranges of bits of a number, in the notation of SDM 1, "Bit and Byte Order": bit 0 is the lowest; bits high:low are those
-- from high down to low.
use Rattle.std.specs.Prelude.{ℕ, ◌+◌, ◌-◌, ◌*◌, ◌/◌, ◌%◌, ◌^◌, Bool, true, false, not, ◌==◌}

-- whether the bit is 1
abbrev pub bit : ℕ → ℕ → Bool
bit n i = n / 2 ^ i % 2 == 1

-- bits high:low, as a number of their own
abbrev pub field : ℕ → ℕ → ℕ → ℕ
field n high low = n / 2 ^ low % 2 ^ (high + 1 - low)

-- bits high:low in place, all others 0
abbrev pub in_place : ℕ → ℕ → ℕ → ℕ
in_place n high low = field n high low * 2 ^ low

-- whether one of bits high:low is 1; where high + 1 is low there are none
abbrev pub some_bit : ℕ → ℕ → ℕ → Bool
some_bit n high low = not (field n high low == 0)

-- whether two bits differ
abbrev pub differs : Bool → Bool → Bool
differs true b = not b
differs false b = b
