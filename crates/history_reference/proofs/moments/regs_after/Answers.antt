use Rattle.std.proofs.Common.{Some, ap, sym, ◌∙◌}
use Rattle.std.specs.Prelude.{option_map}
use Rattle.paging_model.specs.RegisterRules.{with_change}
use Rattle.history_reference.proofs.ChangedRegisters.{regs_after-set, regs_after-other}
use Rattle.history_reference.proofs.moments.regs_after.Goals as goal

pub returns-then-of-cpu : goal.returns-then-of-cpu
returns-then-of-cpu c processors was =
    regs_after-other _ c.in-Set.of c.args.cpu c.in-Set.change processors c.args.before c.in-Set.is c.if-of-cpu.true was

pub returns-in_err-known : goal.returns-in_err-known
returns-in_err-known c processors was =
    c.from_residual.ensures
    ∙ (sym (ap (option_map (with_change c.in-Set.change)) c.in_err-known.was)
    ∙ regs_after-set _ c.in-Set.of c.args.cpu c.in-Set.change processors c.args.before c.in-Set.is c.if-of-cpu.false was)

pub returns : goal.returns
returns c processors was =
    ap Some c.with_change.ensures
    ∙ (sym (ap (option_map (with_change c.in-Set.change)) c.in_ok-known.was)
    ∙ regs_after-set _ c.in-Set.of c.args.cpu c.in-Set.change processors c.args.before c.in-Set.is c.if-of-cpu.false was)
