use Rattle.std.proofs.Common.{◌∙◌, length, sym, arith}
use Rattle.edit_log.specs.Digits.{base_of, digit_in}
use Rattle.edit_log.proofs.Digits.{digit-fits, digit-room, value-next}
use Rattle.edit_log.proofs.numbers.more_digits.Goals as goal

pub overflow_mul-value : goal.overflow_mul-value
overflow_mul-value c =
    let fits = digit-fits c.loop-character.value (base_of c.args.radix) 0 (length c.args.digits.now) c.loop-character.character-index
    (rw c.base.ensures.value at c.base.ensures.some) c.loop-character-test.true c.loop-character.invariant.fits in
    rw c.base.ensures.value (omega (arith, fits))

pub overflow_add-value : goal.overflow_add-value
overflow_add-value c =
    let fits = digit-fits c.loop-character.value (base_of c.args.radix) c.in_ok-digit.field-0 (length c.args.digits.now) c.loop-character.character-index
    c.in_ok-digit.ensures.below c.loop-character-test.true c.loop-character.invariant.fits in
    rw (c.base.ensures.value, c.from.ensures) (omega (arith, fits))

pub loop-character-preserved : goal.loop-character-preserved
loop-character-preserved c = rw (c.base.ensures.value, c.from.ensures) (record {
  same = sym (value-next (digit_in c.args.radix) (base_of c.args.radix) c.loop-character.value c.in_ok-digit.field-0 c.args.digits.now c.loop-character.character-index
      c.loop-character-test.true (sym c.in_ok-digit.ensures.value)) ∙ c.loop-character.invariant.same;
  fits = digit-room c.loop-character.value (base_of c.args.radix) c.in_ok-digit.field-0 (length c.args.digits.now) c.loop-character.character-index
      c.in_ok-digit.ensures.below c.loop-character-test.true c.loop-character.invariant.fits;
})
