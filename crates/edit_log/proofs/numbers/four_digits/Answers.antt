use Rattle.std.proofs.Common.{Some, arith, ap, ◌∙◌}
use Rattle.edit_log.specs.Numbers.{hex_digit}
use Rattle.edit_log.proofs.Digits.{four-great, four-small}
use Rattle.edit_log.proofs.numbers.four_digits.Goals as goal

pub returns-then-four-lt-N-clause-value : goal.returns-then-four-lt-N-clause-value
returns-then-four-lt-N-clause-value c =
    ap Some (omega (arith, c.from.ensures, c.entry.ensures.value, c.entry-2.ensures.value, c.entry-3.ensures.value, c.entry-4.ensures.value))
    ∙ four-small (hex_digit c.args.a) (hex_digit c.args.b) (hex_digit c.args.c) (hex_digit c.args.d)
    (omega (arith, c.if-four-lt-N.true, c.entry.ensures.value, c.entry-2.ensures.value, c.entry-3.ensures.value, c.entry-4.ensures.value))

pub returns-else-four-lt-N-clause-value : goal.returns-else-four-lt-N-clause-value
returns-else-four-lt-N-clause-value c =
    four-great (hex_digit c.args.a) (hex_digit c.args.b) (hex_digit c.args.c) (hex_digit c.args.d)
    c.entry.ensures.below c.entry-2.ensures.below c.entry-3.ensures.below c.entry-4.ensures.below
    (omega (arith, c.if-four-lt-N.false, c.entry.ensures.value, c.entry-2.ensures.value, c.entry-3.ensures.value, c.entry-4.ensures.value))
