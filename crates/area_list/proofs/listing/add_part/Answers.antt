use Rattle.std.proofs.lemmas.Result.{on_ok_weaker}
use Rattle.paging_model.specs.Registers.{la57}
use Rattle.area_list.proofs.Granting.{part-added}
use Rattle.paging_laws.proofs.ZoneLaws.{range-zone}
use Rattle.area_list.proofs.listing.add_part.Goals as goal

pub returns-clause-added : goal.returns-clause-added
returns-clause-added c =
    on_ok_weaker c.append.result
    (λ appended. part-added c.args.regs.now c.args.part.now c.rights.result c.go_to.new.self.reached c.args.areas.now.items c.append.new.areas.items
    (λ x reached. c.rights.ensures c.args.regs.now x c.go_to.ensures.grants reached) c.go_to.ensures.reach
    (λ x from to. range-zone (la57 c.args.regs.now) c.args.part.now.first c.args.part.now.last x c.requires.canonical.canonical c.requires.range.below c.requires.side from to)
    appended)
    c.append.ensures
