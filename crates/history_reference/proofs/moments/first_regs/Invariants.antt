use Rattle.std.proofs.Common.{◌≡◌, drop}
use Rattle.history_model.specs.History.{regs_in}
use Rattle.history_reference.proofs.moments.first_regs.Given as goal

-- none of the processors so far has the number
abbrev pub invariant-loop-processor : goal.invariant-loop-processor
invariant-loop-processor l = regs_in (drop l.processor-index l.processors) l.cpu ≡ regs_in l.processors l.cpu
