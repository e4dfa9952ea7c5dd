use Rattle.std.proofs.Common.{◌≡◌, List, sym, ap, ◌∙◌, subst, rules}
use Rattle.std.specs.Prelude.{option_map}
use Rattle.std.proofs.lemmas.Result.{IfOk-weaker}
use Rattle.paging_model.specs.LinearAddress.{IsPage}
use Rattle.paging_model.specs.Registers.{la57}
use Rattle.paging_model.specs.Translations.{present_target}
use Rattle.paging_reference.specs.PageTargets.{target_of}
use Rattle.history_model.specs.History.{machine, memory}
use Rattle.history_reference.specs.CacheEntries.{HeldEntry}
use Rattle.history_reference.specs.Moments.{history_of}
use Rattle.history_reference.proofs.Usable.{AreFoundOf, found-stale}
use Rattle.history_reference.proofs.stale_pages.stale_translations.Goals as goal

pub returns : goal.returns
returns c =
    let history = history_of c.args.moment.now in
    let known = c.in-Some.known in
    let page : IsPage (la57 known) c.args.page = rw c.bit.ensures at (c.is_page.ensures.0 (search (rules, c.if-not-is_page.false))) in
    let there : option_map target_of c.present_target-there.result ≡ present_target (memory history) (machine history) known c.in-Some-last_root.root c.args.page =
    c.present_target-there.ensures
    ∙ ap (λ here. present_target (memory history) here known c.in-Some-last_root.root c.args.page) c.machine.ensures in
    IfOk-weaker c.found_among.result _ _
    (λ list found.
    found-stale history known c.args.cpu c.args.pcid c.args.page c.in-Some-last_root.root c.in_ok-usable.usable.items
    (sym c.in-Some.ensures) (sym c.in-Some-last_root.ensures.value) c.in_ok-usable.ensures list.items page
    (subst (λ it. AreFoundOf it known c.args.cpu c.args.pcid c.args.page c.in_ok-usable.usable.items list.items) there
    (subst (λ (all : List HeldEntry). AreFoundOf (option_map target_of c.present_target-there.result) known c.args.cpu c.args.pcid c.args.page all list.items)
    c.deref.ensures.value found)))
    c.found_among.ensures
