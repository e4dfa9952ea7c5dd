use Rattle.std.proofs.Common.{◌≡◌, ◌+◌, ◌∷◌, ◌++◌, [], arith, sym, ◌∙◌, take, drop, ap}
use Rattle.std.proofs.lemmas.Grind.{common_steps}
use Rattle.std.proofs.lemmas.List.{take-append-drop}
use Rattle.std.specs.Prelude.{slice_index_or}
use Rattle.rights_report.specs.AnswerLines.{answer_lines}
use Rattle.rights.specs.Stopping.{PutsLines}
use Rattle.rights.specs.declared.stopping.Stop.TheVariants.{Put}
use Rattle.rights.proofs.Finishing.{by_err}
use Rattle.rights.proofs.PutPieces.{puts-truncated, truncated-at}
use Rattle.rights.proofs.answering.put_answer.Goals as goal

pub returns-in_err-put-clause-puts : goal.returns-in_err-put-clause-puts
returns-in_err-put-clause-puts g c =
    let lines = answer_lines c.args.answer.now in
    let i = c.loop-index.index in
    let cell : drop i lines ≡ slice_index_or lines i [] ∷ drop (i + 1) lines = grind (arith, common_steps) in
    let all : lines ≡ take i lines ++ (slice_index_or lines i [] ∷ drop (i + 1) lines) = sym (take-append-drop i lines) ∙ ap (λ ls. take i lines ++ ls) cell in
    let text : c.bytes.result.now ≡ slice_index_or lines i [] = c.bytes.ensures ∙ c.write_line.ensures in
    by_err (λ r. PutsLines (g.K.Sink.pieces c.args.out.now) (g.K.Sink.pieces c.put.new.self) lines r) c.from_residual.result Put c.from_residual.ensures.1
    (truncated-at _ _ _ lines (take i lines) (slice_index_or lines i [] ∷ drop (i + 1) lines) all c.loop-index.invariant.puts
    (puts-truncated c.in_err-put.field-0.0 _ _ _ (drop (i + 1) lines) (rw text at c.in_err-put.ensures.pieces)))
