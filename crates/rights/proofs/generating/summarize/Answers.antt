use Rattle.std.proofs.Common.{◌≡◌, ◌∙◌, subst}
use Rattle.std.specs.Prelude.{IfErr}
use Rattle.audit_core.specs.Standing.{StandsFor}
use Rattle.history_model.specs.History.{Start, begun}
use Rattle.image_gen.specs.GeneratedCore.{generated_core}
use Rattle.rights.specs.Stopping.{stop_of_core}
use Rattle.rights.specs.declared.stopping.Stop.TheVariants.{Memory}
use Rattle.rights.proofs.Finishing.{by_err}
use Rattle.rights.proofs.GeneratedLogs.{core-fails, core-start-is}
use Rattle.rights.proofs.generating.summarize.Goals as goal

pub returns-in_err-core-clause-err : goal.returns-in_err-core-clause-err
returns-in_err-core-clause-err g c =
    let is : c.deref.result.now ≡ generated_core = c.deref.ensures.value ∙ c.in_ok-made.ensures.core in
    by_err (λ r. IfErr r (λ stop. stop ≡ Memory)) c.from_residual-in_err-core.result (stop_of_core c.in_err-core.field-0.0) c.from_residual-in_err-core.ensures.1
    (core-fails c.deref.result.now c.in_err-core.field-0.0 is c.in_err-core.ensures.refused)

pub summarize_log-requires-clause-stands : goal.summarize_log-requires-clause-stands
summarize_log-requires-clause-stands g c =
    let is : c.deref.result.now ≡ generated_core = c.deref.ensures.value ∙ c.in_ok-made.ensures.core in
    subst (λ (start : Start). StandsFor c.in_ok-session.session (begun start))
    (core-start-is c.deref.result.now c.in_ok-core.core is c.in_ok-core.ensures.ok) c.in_ok-session.ensures
