use Rattle.std.proofs.Common.{◌≡◌, ◌+◌, ◌∷◌, ◌++◌, [], arith, sym, ◌∙◌, take, drop, ap, subst, ℕ, List}
use Rattle.std.proofs.lemmas.Grind.{common_steps}
use Rattle.std.proofs.lemmas.List.{take-append-drop, take_all, take_more}
use Rattle.std.specs.Prelude.{slice_index_or}
use Rattle.rights_report.specs.SummaryLines.{summary_lines}
use Rattle.outside.specs.declared.shelf.Failed.{Failed}
use Rattle.rights.specs.Ends.{Adds}
use Rattle.rights.specs.Stopping.{PutsLines}
use Rattle.rights.specs.declared.stopping.Stop.TheVariants.{Put}
use Rattle.rights.proofs.Finishing.{by_err}
use Rattle.rights.proofs.PutPieces.{adds-more, puts-line, puts-truncated, truncated-at}
use Rattle.rights.proofs.generating.put_summary.Goals as goal

pub returns-in_err-put-clause-puts : goal.returns-in_err-put-clause-puts
returns-in_err-put-clause-puts g c =
    let lines = summary_lines c.args.summary.now in
    let i = c.loop-index.index in
    let cell : drop i lines ≡ slice_index_or lines i [] ∷ drop (i + 1) lines = grind (arith, common_steps) in
    let all : lines ≡ take i lines ++ (slice_index_or lines i [] ∷ drop (i + 1) lines) = sym (take-append-drop i lines) ∙ ap (λ ls. take i lines ++ ls) cell in
    let text : c.bytes.result.now ≡ slice_index_or lines i [] = c.bytes.ensures ∙ c.write_summary_line.ensures in
    by_err (λ r. PutsLines (g.K.Sink.pieces c.args.out.now) (g.K.Sink.pieces c.put.new.self) lines r) c.from_residual.result Put c.from_residual.ensures.1
    (truncated-at _ _ _ lines (take i lines) (slice_index_or lines i [] ∷ drop (i + 1) lines) all c.loop-index.invariant.puts
    (puts-truncated c.in_err-put.field-0.0 _ _ _ (drop (i + 1) lines) (rw text at c.in_err-put.ensures.pieces)))

pub loop-index-preserved : goal.loop-index-preserved
loop-index-preserved g c =
    let lines = summary_lines c.args.summary.now in
    let i = c.loop-index.index in
    let text : c.bytes.result.now ≡ slice_index_or lines i [] = c.bytes.ensures ∙ c.write_summary_line.ensures in
    let more : take (i + 1) lines ≡ take i lines ++ slice_index_or lines i [] ∷ [] = take_more lines i [] c.loop-index-test.true in
    record {
      puts = rw more (adds-more (g.K.Sink.pieces c.args.out.now) (g.K.Sink.pieces c.loop-index.out) (g.K.Sink.pieces c.put.new.self) (take i lines)
          (slice_index_or lines i [] ∷ []) c.loop-index.invariant.puts
          (puts-line Failed (g.K.Sink.pieces c.loop-index.out) (g.K.Sink.pieces c.put.new.self) (slice_index_or lines i []) (rw text at c.in_ok-put.ensures.pieces)));
      count = let so_far = c.loop-index.invariant.count in let more = c.in_ok-put.ensures.count in omega (arith, so_far, more);
    }

pub returns-clause-puts : goal.returns-clause-puts
returns-clause-puts g c =
    subst (λ (lines : List (List ℕ)). Adds (g.K.Sink.pieces c.args.out.now) (g.K.Sink.pieces c.loop-index.out) lines)
    (take_all c.loop-index.index (summary_lines c.args.summary.now) (omega arith)) c.loop-index.invariant.puts
