use Rattle.std.proofs.Common.{Some, arith, ap, ◌∙◌}
use Rattle.edit_log.specs.Numbers.{hex_digit}
use Rattle.edit_log.proofs.Digits.{two-great, two-small}
use Rattle.edit_log.proofs.numbers.two_digits.Goals as goal

pub returns-then-byte-lt256 : goal.returns-then-byte-lt256
returns-then-byte-lt256 c =
    ap Some (omega (arith, c.if-byte-lt256.true, c.entry.ensures.value, c.entry-2.ensures.value))
    ∙ two-small (hex_digit c.args.high) (hex_digit c.args.low)
    (omega (arith, c.if-byte-lt256.true, c.entry.ensures.value, c.entry-2.ensures.value))

pub returns-else-byte-lt256 : goal.returns-else-byte-lt256
returns-else-byte-lt256 c =
    two-great (hex_digit c.args.high) (hex_digit c.args.low) c.entry.ensures.below c.entry-2.ensures.below
    (omega (arith, c.if-byte-lt256.false, c.entry.ensures.value, c.entry-2.ensures.value))
