use Rattle.std.proofs.Common.{ℕ, Option}
use Rattle.std.specs.Prelude.{map}
use Rattle.std.proofs.lemmas.Result.{IfOk-weaker}
use Rattle.paging_model.specs.Listings.{stretch_of_area}
use Rattle.paging_model.specs.Registers.{la57, root_of}
use Rattle.paging_model.specs.Translations.{Target, present_target}
use Rattle.paging_reference.proofs.PageLists.{listing-whole}
use Rattle.paging_reference.proofs.listings.areas_among.Goals as goal

pub returns-clause-whole : goal.returns-clause-whole
returns-clause-whole g c all =
    let target : ℕ → Option (Target ℕ) =
    present_target (g.M.PhysicalMemory.contents c.args.memory.now) c.args.machine.now c.args.regs.now (root_of c.args.regs.now c.args.machine.now) in
    IfOk-weaker c.areas_of.result _ _
    (λ areas lists. listing-whole target (la57 c.args.regs.now) c.args.pages.now (map stretch_of_area areas.items) all lists)
    c.areas_of.ensures
