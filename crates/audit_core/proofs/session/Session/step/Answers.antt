-- An accepted event leads on from the moment that the session stands for.
use Rattle.std.proofs.lemmas.Result.{IfOk-weaker}
use Rattle.audit_core.proofs.Accepting.{accepts_further}
use Rattle.audit_core.proofs.session.Session.step.Goals as goal

pub returns-clause-accepted : goal.returns-clause-accepted
returns-clause-accepted g c =
    IfOk-weaker _ _ _ (λ answer accepts. accepts_further _ _ _ answer accepts) c.handle.ensures.accepted
