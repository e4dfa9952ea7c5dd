use Rattle.std.proofs.Common.{Some, ap, sym, ◌∙◌, arith}
use Rattle.std.proofs.lemmas.Grind.{common_steps}
use Rattle.phys_view.specs.Seen.{memory_of}
use Rattle.phys_view.proofs.Numbers.{entry_at-known, entry_at-unknown, known-set}
use Rattle.phys_view.proofs.view.View.entry_by_bytes.Goals as goal

pub returns-in_err-bytes : goal.returns-in_err-bytes
returns-in_err-bytes g c = c.from_residual.ensures ∙ sym (entry_at-unknown _ _ c.loop-i.i (omega arith) (sym c.in_err-bytes.ensures))

pub loop-i-preserved : goal.loop-i-preserved
loop-i-preserved g c = record {
  long = grind (arith, common_steps);
  known = known-set (memory_of c.args.self.now) c.loop-i.bytes c.args.at c.loop-i.i _ (omega arith) c.loop-i.invariant.known (sym c.in_ok-bytes.ensures);
}

pub returns : goal.returns
returns g c = ap Some c.read_u64.ensures ∙ sym (entry_at-known _ _ _ (λ k within. c.loop-i.invariant.known k (omega arith)))
