use Rattle.std.proofs.Common.{◌≡◌, ℕ, Option, Some, List, ◌∷◌, sym, ap, ◌∙◌, subst}
use Rattle.std.specs.Prelude.{map}
use Rattle.std.proofs.lemmas.Result.{IfOk-weaker}
use Rattle.paging_model.specs.Listings.{Stretch, IsListing, stretch_of_area}
use Rattle.paging_model.specs.Registers.{la57, root_of}
use Rattle.paging_model.specs.Translations.{Target, present_target}
use Rattle.paging_model.specs.declared.spaces.Area.{Area}
use Rattle.paging_reference.specs.ListedPages.{ArePages, target_among, with_first_page}
use Rattle.paging_reference.specs.PageTargets.{target_of}
use Rattle.paging_reference.proofs.PageLists.{listing-skip, listing-with}
use Rattle.paging_reference.proofs.listings.+areas_of.Goals as goal

pub returns-in_default-present_target : goal.returns-in_default-present_target
returns-in_default-present_target g t c =
    let target : ℕ → Option (Target ℕ) =
    present_target (g.M.PhysicalMemory.contents c.args.memory.now) c.args.machine.now c.args.regs.now (root_of c.args.regs.now c.args.machine.now) in
    let pages : ArePages (la57 c.args.regs.now) (c.in-Some.page.now ∷ c.in-Some.others.now) =
    subst (ArePages (la57 c.args.regs.now)) c.in-Some.ensures.cases.0 c.requires in
    subst (λ (all : List ℕ). IsListing (la57 c.args.regs.now) (target_among all target) (map stretch_of_area c.in_ok-later.later.items))
    (sym c.in-Some.ensures.cases.0)
    (listing-skip target (la57 c.args.regs.now) c.in-Some.page.now c.in-Some.others.now (map stretch_of_area c.in_ok-later.later.items)
    pages.1 c.in_ok-later.ensures
    (ap (λ root. present_target (g.M.PhysicalMemory.contents c.args.memory.now) c.args.machine.now c.args.regs.now root c.in-Some.page.now) (sym c.root.ensures.value)
    ∙ sym c.in_default-present_target.ensures))

pub returns : goal.returns
returns g t c =
    let target : ℕ → Option (Target ℕ) =
    present_target (g.M.PhysicalMemory.contents c.args.memory.now) c.args.machine.now c.args.regs.now (root_of c.args.regs.now c.args.machine.now) in
    let pages : ArePages (la57 c.args.regs.now) (c.in-Some.page.now ∷ c.in-Some.others.now) =
    subst (ArePages (la57 c.args.regs.now)) c.in-Some.ensures.cases.0 c.requires in
    let maps : target c.in-Some.page.now ≡ Some (target_of c.in-Some-present_target.target) =
    ap (λ root. present_target (g.M.PhysicalMemory.contents c.args.memory.now) c.args.machine.now c.args.regs.now root c.in-Some.page.now) (sym c.root.ensures.value)
    ∙ sym c.in-Some-present_target.ensures in
    let later : List (Stretch ℕ) = map stretch_of_area c.in_ok-later.later.items in
    IfOk-weaker c.with_page.result _ _
    (λ areas is_with.
    subst (λ (list : List (Stretch ℕ)). IsListing (la57 c.args.regs.now) (target_among c.args.pages.now target) list)
    (sym (is_with ∙ ap (λ (list : List Area). with_first_page c.in-Some.page.now (target_of c.in-Some-present_target.target) (map stretch_of_area list)) c.deref.ensures.value))
    (subst (λ (all : List ℕ). IsListing (la57 c.args.regs.now) (target_among all target) (with_first_page c.in-Some.page.now (target_of c.in-Some-present_target.target) later))
    (sym c.in-Some.ensures.cases.0)
    (listing-with target (la57 c.args.regs.now) c.in-Some.page.now c.in-Some.others.now pages.1 pages.0 (target_of c.in-Some-present_target.target) maps
    later c.in_ok-later.ensures)))
    c.with_page.ensures
