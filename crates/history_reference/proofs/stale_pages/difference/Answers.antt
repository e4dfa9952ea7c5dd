use Rattle.std.proofs.Common.{◌≡◌, ◌&&◌, ap, ◌∙◌}
use Rattle.std.specs.Prelude.{not}
use Rattle.paging_model.specs.AccessSets.{has, set_number}
use Rattle.paging_model.specs.declared.access.Access.{Access}
use Rattle.history_reference.proofs.stale_pages.difference.Goals as goal

pub returns : goal.returns
returns c =
    let same : has c.minus.result ≡ (λ (access : Access). has c.args.some.now access && not (has c.args.other.now access)) = λ k access. c.minus.ensures access k in
    c.of_number.ensures ∙ (c.number.ensures.sum ∙ ap set_number same)
