use Rattle.std.proofs.Common.{ℕ, List, ◌∙◌, subst}
use Rattle.std.proofs.lemmas.Result.{IfOk-weaker}
use Rattle.history_model.specs.StaleTranslations.{scope}
use Rattle.history_reference.specs.GivenPages.{AreFindingsAmong}
use Rattle.history_reference.specs.Moments.{history_of}
use Rattle.history_reference.proofs.FirstFindings.{findings-whole}
use Rattle.history_reference.proofs.findings.findings_among.Goals as goal

pub returns-clause-whole : goal.returns-clause-whole
returns-clause-whole c all =
    IfOk-weaker c.findings_of.result _ _
    (λ list among.
    findings-whole (history_of c.args.moment.now) c.args.pages.now (scope (history_of c.args.moment.now) c.args.all) list.items all
    (subst (λ (pairs : List (ℕ × ℕ)). AreFindingsAmong (history_of c.args.moment.now) c.args.pages.now pairs list.items)
    (c.deref.ensures.value ∙ c.in_ok-pairs.ensures) among))
    c.findings_of.ensures
