use Rattle.std.proofs.Common.{◌≡◌, ◌&&◌, ap, ◌∙◌}
use Rattle.paging_model.specs.AccessSets.{has, set_number}
use Rattle.paging_model.specs.Pointers.{reaches}
use Rattle.paging_model.specs.Translations.{Protection, is_permitted}
use Rattle.paging_model.specs.declared.access.Access.{Access}
use Rattle.paging_reference.proofs.translations.permitted_accesses.Goals as goal

pub returns : goal.returns
returns c =
    let page : Protection = record { bits = c.args.bits; key = c.args.key } in
    let each : (access : Access) → has c.meet-both.result access ≡ is_permitted c.args.regs.now access c.args.address page =
    λ access. c.meet-both.ensures access
    ∙ (ap (λ b. b && has c.rights.result access) (c.reach.ensures access)
    ∙ ap (λ b. reaches c.args.regs.now access c.args.address && b) (c.rights.ensures access)) in
    let same : has c.meet-both.result ≡ (λ access. is_permitted c.args.regs.now access c.args.address page) = λ k access. each access k in
    c.of_number.ensures ∙ (c.number.ensures.sum ∙ ap set_number same)
