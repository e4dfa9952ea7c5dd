use Rattle.std.proofs.Common.{◌≡◌, ◌&&◌, Bool, sym, ap, ◌∙◌}
use Rattle.paging_model.specs.AccessSets.{has, set_number}
use Rattle.paging_model.specs.Pointers.{reaches}
use Rattle.paging_model.specs.Translations.{Protection, is_permitted}
use Rattle.paging_model.specs.declared.access.Access.{Access}
use Rattle.present_pages.proofs.granting.rights_at.Goals as goal

pub returns : goal.returns
returns c =
    let page : Protection = record { bits = c.args.bits; key = c.args.key } in
    let each : (access : Access) → has c.meet-grants.result access ≡ is_permitted c.args.regs.now access c.args.address page =
    λ access. c.meet-grants.ensures access
    ∙ (ap (λ (b : Bool). b && has c.rights.result access) (c.reach.ensures access)
    ∙ ap (λ (b : Bool). reaches c.args.regs.now access c.args.address && b) (c.rights.ensures access)) in
    let same : has c.meet-grants.result ≡ (λ access. is_permitted c.args.regs.now access c.args.address page) = λ k access. each access k in
    sym c.number-number.ensures.value ∙ (c.number-number.ensures.sum ∙ ap set_number same)
