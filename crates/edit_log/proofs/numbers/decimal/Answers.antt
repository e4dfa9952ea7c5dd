use Rattle.std.proofs.Common.{◌∙◌, ◌+◌, ◌*◌, ◌≤◌, Some, length, sym, ap, arith}
use Rattle.std.specs.Prelude.{option_and_then}
use Rattle.edit_log.specs.Numbers.{value_after, decimal_digit}
use Rattle.edit_log.proofs.Digits.{no-value, some-value, value-last, value-split}
use Rattle.edit_log.proofs.numbers.decimal.Goals as goal

pub returns-in_err-value : goal.returns-in_err-value
returns-in_err-value c =
    let last = c.split_at.result.1.now in
    rw c.from_residual.ensures (no-value decimal_digit 10 20 c.args.digits.now
    (value-split decimal_digit 10 c.min.result c.args.digits.now c.split_at.result.0.now last c.split_at.ensures.front c.split_at.ensures.back
    ∙ ap (option_and_then (λ n. value_after decimal_digit 10 n last)) (sym c.in_err-value.ensures.value)))

pub returns-in_err-decimal_digit-in-len1-up : goal.returns-in_err-decimal_digit-in-len1-up
returns-in_err-decimal_digit-in-len1-up c =
    let last = c.split_at.result.1.now in
    let one : length last ≤ 1 = omega (arith, c.split_at.ensures.back_len, c.min.ensures) in
    rw c.from_residual-in_err-decimal_digit-in-len1-up.ensures (no-value decimal_digit 10 20 c.args.digits.now
    (value-last decimal_digit 10 c.min.result c.in_ok-value.value c.args.digits.now c.split_at.result.0.now last c.split_at.ensures.front c.split_at.ensures.back
    c.in-len1-up.len_at_least one c.in_ok-value.ensures.value
    ∙ ap (option_and_then (λ d. Some (c.in_ok-value.value * 10 + d))) (sym c.in_err-decimal_digit-in-len1-up.ensures.value)))

pub returns-in_ok-decimal_digit-in-len1-up : goal.returns-in_ok-decimal_digit-in-len1-up
returns-in_ok-decimal_digit-in-len1-up c =
    let last = c.split_at.result.1.now in
    let one : length last ≤ 1 = omega (arith, c.split_at.ensures.back_len, c.min.ensures) in
    let digit = c.in_ok-decimal_digit-in-len1-up.field-0 in
    c.with_digit.ensures ∙ some-value decimal_digit 10 20 (c.in_ok-value.value * 10 + digit) c.args.digits.now (omega (arith, c.in-len1-up.len_at_least, c.split_at.ensures.back_len)) (omega arith)
    (value-last decimal_digit 10 c.min.result c.in_ok-value.value c.args.digits.now c.split_at.result.0.now last c.split_at.ensures.front c.split_at.ensures.back
    c.in-len1-up.len_at_least one c.in_ok-value.ensures.value
    ∙ ap (option_and_then (λ d. Some (c.in_ok-value.value * 10 + d))) (sym c.in_ok-decimal_digit-in-len1-up.ensures.value))
