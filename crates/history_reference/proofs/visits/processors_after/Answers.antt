use Rattle.std.proofs.Common.{ap, sym, ◌∙◌}
use Rattle.std.specs.Prelude.{map}
use Rattle.std.proofs.lemmas.Result.{IfOk-weaker}
use Rattle.history_model.specs.History.{processors_after}
use Rattle.history_reference.specs.Moments.{changed_processor}
use Rattle.history_reference.proofs.ChangedRegisters.{set_in-map}
use Rattle.history_reference.proofs.visits.processors_after.Goals as goal

pub returns : goal.returns
returns c =
    IfOk-weaker c.set_in.result _ _
    (λ after is_mapped.
    is_mapped
    ∙ (ap (map (changed_processor c.in-Set.cpu c.in-Set.change)) c.deref.ensures.value
    ∙ (set_in-map c.in-Set.cpu c.in-Set.change c.args.list.items
    ∙ ap (λ happened. processors_after happened c.args.list.items) (sym c.in-Set.is))))
    c.set_in.ensures
