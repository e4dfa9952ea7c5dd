use Rattle.std.proofs.Common.{◌≢◌, ℕ, sym, ◌∙◌}
use Rattle.paging_model.specs.AccessSets.{minus_of}
use Rattle.paging_model.specs.Translations.{Target}
use Rattle.paging_reference.specs.PageTargets.{target_of}
use Rattle.history_reference.proofs.Excesses.{something_over, excess_same_frame}
use Rattle.history_reference.proofs.stale_pages.excess.Goals as goal

pub returns : goal.returns
returns c =
    let there : Target ℕ = target_of c.in-Some.there in
    let granted : Target ℕ = target_of c.args.granted.now in
    let some : minus_of granted.kind there.kind ≢ 0 = λ none. c.if-number-eq0.false (c.number.ensures.value ∙ (c.difference-more.ensures ∙ none)) in
    rw c.in-Some.is (something_over there granted some, c.difference-more.ensures ∙ sym (excess_same_frame there granted c.if-there-granted.false))
