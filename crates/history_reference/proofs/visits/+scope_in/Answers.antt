use Rattle.std.proofs.Common.{ℕ, List, ◌++◌, sym, ap, ◌∙◌}
use Rattle.std.specs.Prelude.{map}
use Rattle.paging_model.specs.declared.registers.Processor.{Processor}
use Rattle.history_model.specs.StaleTranslations.{scope_of}
use Rattle.history_reference.specs.Moments.{history_of}
use Rattle.history_reference.proofs.visits.+scope_in.Goals as goal

pub returns : goal.returns
returns t c =
    let history = history_of c.args.moment.now in
    let pair : ℕ → ℕ × ℕ = λ pcid. (c.in-Some.one.now.number, pcid) in
    c.in_ok-extend_from_slice.ensures.items
    ∙ (ap (λ (later : List (ℕ × ℕ)). c.in_ok-pairs.pairs.items ++ later) (c.deref-2.ensures.value ∙ c.in_ok-later.ensures)
    ∙ (ap (λ (first : List (ℕ × ℕ)). first ++ scope_of history c.in-Some.others.now c.args.all)
    (c.in_ok-pairs.ensures ∙ ap (map pair) (c.deref.ensures.value ∙ c.in_ok-pcids.ensures))
    ∙ ap (λ (list : List Processor). scope_of history list c.args.all) (sym c.in-Some.ensures.cases.0)))
