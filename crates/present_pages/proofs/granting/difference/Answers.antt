use Rattle.std.proofs.Common.{◌≡◌, ◌&&◌, sym, ap, ◌∙◌}
use Rattle.std.specs.Prelude.{not}
use Rattle.paging_model.specs.AccessSets.{has, set_number}
use Rattle.present_pages.proofs.granting.difference.Goals as goal

pub returns : goal.returns
returns c =
    let same : has c.minus-more.result ≡ (λ access. has c.args.one access && not (has c.args.other access)) =
    λ k access. c.minus-more.ensures access k in
    sym c.number-number.ensures.value ∙ (c.number-number.ensures.sum ∙ ap set_number same)
