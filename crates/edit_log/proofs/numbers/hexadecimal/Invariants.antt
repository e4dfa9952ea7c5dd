use Rattle.std.proofs.Common.{◌≡◌, ◌+◌, ◌*◌, ◌^◌, ◌≤◌, length}
use Rattle.edit_log.specs.Numbers.{value_after, hex_digit}
use Rattle.edit_log.proofs.numbers.hexadecimal.Given as goal

abbrev pub invariant-fours : goal.invariant-fours
invariant-fours l = record {
  same : value_after hex_digit 16 l.value l.rest ≡ value_after hex_digit 16 0 l.digits;
  fits : (l.value + 1) * 16 ^ length l.rest ≤ 2 ^ 64;
}

abbrev pub decreases-fours : goal.decreases-fours
decreases-fours l = length l.rest
