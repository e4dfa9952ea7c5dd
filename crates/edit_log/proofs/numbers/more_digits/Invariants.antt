use Rattle.std.proofs.Common.{◌≡◌, ◌+◌, ◌-◌, ◌*◌, ◌^◌, ◌≤◌, length, drop}
use Rattle.edit_log.specs.Numbers.{value_after}
use Rattle.edit_log.specs.Digits.{base_of, digit_in}
use Rattle.edit_log.proofs.numbers.more_digits.Given as goal

abbrev pub invariant-loop-character : goal.invariant-loop-character
invariant-loop-character l = record {
  same : value_after (digit_in l.radix) (base_of l.radix) l.value (drop l.character-index l.digits) ≡ value_after (digit_in l.radix) (base_of l.radix) l.before l.digits;
  fits : (l.value + 1) * base_of l.radix ^ (length l.digits - l.character-index) ≤ 2 ^ 64;
}
