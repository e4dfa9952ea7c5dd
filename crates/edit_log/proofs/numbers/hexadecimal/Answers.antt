use Rattle.std.proofs.Common.{◌∙◌, ◌*◌, ◌+◌, ◌^◌, length, drop, get_or, length-drop, refl, sym, ap, arith, lit≤}
use Rattle.std.proofs.lemmas.List.{take_rest}
use Rattle.std.specs.Prelude.{option_and_then}
use Rattle.edit_log.specs.Numbers.{value_after, hex_digit}
use Rattle.edit_log.proofs.Digits.{first_four, four-fits, four-room, no-value, room-from, value-four}
use Rattle.edit_log.proofs.numbers.hexadecimal.Goals as goal

pub fours-init : goal.fours-init
fours-init c = record { same = refl; fits = room-from 16 (length c.args.digits.now) 16 (2 ^ 64) (omega arith) (omega arith) (lit≤ tt) }

pub returns-in_err-four : goal.returns-in_err-four
returns-in_err-four c =
    let rest = c.fours.rest.now in
    rw c.from_residual.ensures (no-value hex_digit 16 16 c.args.digits.now (sym c.fours.invariant.same
    ∙ ap (value_after hex_digit 16 c.fours.value) (first_four rest c.in-len4-up.len_at_least)
    ∙ value-four c.fours.value (get_or rest 0 0) (get_or rest 1 0) (get_or rest 2 0) (get_or rest 3 0) (drop 4 rest)
    ∙ ap (option_and_then (λ four. value_after hex_digit 16 (c.fours.value * 65536 + four) (drop 4 rest))) (sym c.in_err-four.ensures.value)))

pub overflow_mul-value : goal.overflow_mul-value
overflow_mul-value c =
    let fits = four-fits c.fours.value c.in_ok-four.four (length c.fours.rest.now) c.in_ok-four.ensures.below c.in-len4-up.len_at_least c.fours.invariant.fits in
    omega (arith, fits)

pub overflow_add-value : goal.overflow_add-value
overflow_add-value c =
    let fits = four-fits c.fours.value c.in_ok-four.four (length c.fours.rest.now) c.in_ok-four.ensures.below c.in-len4-up.len_at_least c.fours.invariant.fits in
    omega (arith, fits)

pub fours-preserved : goal.fours-preserved
fours-preserved c =
    let rest = c.fours.rest.now in
    rw (take_rest rest 4) (record {
      same = sym (ap (value_after hex_digit 16 c.fours.value) (first_four rest c.in-len4-up.len_at_least)
          ∙ value-four c.fours.value (get_or rest 0 0) (get_or rest 1 0) (get_or rest 2 0) (get_or rest 3 0) (drop 4 rest)
          ∙ ap (option_and_then (λ four. value_after hex_digit 16 (c.fours.value * 65536 + four) (drop 4 rest))) (sym c.in_ok-four.ensures.value))
          ∙ c.fours.invariant.same;
      fits = rw (length-drop 4 rest) (four-room c.fours.value c.in_ok-four.four (length rest) c.in_ok-four.ensures.below c.in-len4-up.len_at_least c.fours.invariant.fits);
    })
