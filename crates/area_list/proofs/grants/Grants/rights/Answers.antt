use Rattle.std.proofs.Common.{◌∙◌, ap, sym, Bool}
use Rattle.std.specs.Prelude.{◌&&◌}
use Rattle.paging_model.specs.AccessSets.{has}
use Rattle.paging_model.specs.Pointers.{reaches}
use Rattle.paging_model.specs.Translations.{is_permitted}
use Rattle.area_list.proofs.Granting.{set_number-same}
use Rattle.area_list.proofs.grants.Grants.rights.Goals as goal

pub returns : goal.returns
returns c = λ regs x grants reached.
    sym c.number-number.ensures.value
    ∙ (c.number-number.ensures.sum
    ∙ set_number-same (has c.meet-permitted.result) (λ access. is_permitted regs access x (record { bits = c.args.bits; key = c.args.key }))
    (λ access. c.meet-permitted.ensures access
    ∙ (ap (λ (b : Bool). b && has c.permitted_by.result access) (reached access)
    ∙ ap (λ (b : Bool). reaches regs access x && b) (c.permitted_by.ensures regs grants.permitted access))))
