use Rattle.std.proofs.Common.{◌≡◌, [], ◌∷◌, sym, ap, ◌∙◌}
use Rattle.std.proofs.lemmas.Result.{err_from_is_err_and}
use Rattle.edit_log.specs.LogLine.{write_line}
use Rattle.edit_log.proofs.SpelledEvents.{writes}
use Rattle.edit_log.proofs.LastWords.{write_last}
use Rattle.edit_log.proofs.line_forms.write.Goals as goal

pub returns-in_err-bytes : goal.returns-in_err-bytes
returns-in_err-bytes c =
    let error = err_from_is_err_and c.from_residual-in_err-bytes.result c.from_residual-in_err-bytes.ensures.1 in
    let at = c.in_ok-next.field-0.now in
    let last = c.last.result.now in
    let is : write_line c.args.words ≡ write_line (at ∷ last ∷ []) =
    ap write_line (c.in_ok-next.ensures.ok ∙ ap (λ words. at ∷ words) c.last.ensures) ∙ write_last at last in
    rw (error.1, error.2) (writes c.args.words at last c.in_ok-at.at is (sym c.in_ok-at.ensures) c.in_err-bytes.ensures.err)
