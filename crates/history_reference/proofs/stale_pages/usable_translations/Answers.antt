use Rattle.std.proofs.Common.{◌≡◌, ℕ, ◌+◌, List, [], get_or, take, ap, sym, ◌∙◌, subst}
use Rattle.std.specs.Prelude.{filter}
use Rattle.std.proofs.lemmas.List.{take_all}
use Rattle.history_model.specs.History.{visited_pcids}
use Rattle.history_reference.specs.CacheEntries.{HeldEntry}
use Rattle.history_reference.specs.Moments.{history_of}
use Rattle.paging_reference.proofs.Membership.{IsIn-take, any_default}
use Rattle.history_reference.proofs.Usable.{AreUsable, usable-start, usable-next, usable-end}
use Rattle.history_reference.proofs.stale_pages.usable_translations.Goals as goal

pub loop-under-init : goal.loop-under-init
loop-under-init c =
    let leaves : c.in_ok-list.list.items ≡ filter (λ (entry : HeldEntry). entry.held.leaf) c.in_ok-own.own.items =
    c.in_ok-list.ensures ∙ ap (filter (λ (entry : HeldEntry). entry.held.leaf)) c.deref.ensures.value in
    subst (AreUsable (history_of c.args.moment.now) c.args.cpu c.args.pcid c.args.page []) (sym leaves)
    (usable-start (history_of c.args.moment.now) c.args.cpu c.args.pcid c.args.page c.in_ok-own.own.items c.in_ok-own.ensures)

pub loop-under-preserved : goal.loop-under-preserved
loop-under-preserved c =
    let items : List ℕ = c.deref-under-items.result.now in
    usable-next (history_of c.args.moment.now) c.args.cpu c.args.pcid c.args.page
    (take c.loop-under.under-index items) (take (c.loop-under.under-index + 1) items) (get_or items c.loop-under.under-index 0)
    c.loop-under.list.items c.add_global.new.list.items
    (λ under. IsIn-take under items c.loop-under.under-index (get_or items c.loop-under.under-index 0) c.loop-under-test.true
    (any_default items c.loop-under.under-index c.loop-under-test.true))
    c.loop-under.invariant c.in_ok-add_global.ensures

pub returns : goal.returns
returns c =
    let visited : take c.loop-under.under-index c.deref-under-items.result.now ≡ visited_pcids (history_of c.args.moment.now) c.args.cpu =
    take_all c.loop-under.under-index c.deref-under-items.result.now c.loop-under-test.false ∙ (c.deref-under-items.ensures.value ∙ c.in_ok-visited.ensures) in
    usable-end (history_of c.args.moment.now) c.args.cpu c.args.pcid c.args.page c.loop-under.list.items
    (subst (λ (all : List ℕ). AreUsable (history_of c.args.moment.now) c.args.cpu c.args.pcid c.args.page all c.loop-under.list.items) visited c.loop-under.invariant)
