use Rattle.std.proofs.Common.{List, [], take, sym, subst}
use Rattle.std.specs.Prelude.{option_map}
use Rattle.std.proofs.lemmas.List.{take_all}
use Rattle.paging_reference.specs.PageTargets.{target_of}
use Rattle.history_reference.specs.CacheEntries.{HeldEntry}
use Rattle.paging_reference.proofs.Membership.{IsIn-take}
use Rattle.history_reference.proofs.Usable.{AreFoundOf, found-start, found-next}
use Rattle.history_reference.proofs.stale_pages.found_among.Goals as goal

pub loop-entry-init : goal.loop-entry-init
loop-entry-init c =
    subst (AreFoundOf (option_map target_of c.args.there.now) c.args.known.now c.args.cpu c.args.pcid c.args.page []) (sym c.new-list.ensures.items)
    (found-start (option_map target_of c.args.there.now) c.args.known.now c.args.cpu c.args.pcid c.args.page)

pub loop-entry-preserved : goal.loop-entry-preserved
loop-entry-preserved c =
    found-next (option_map target_of c.args.there.now) c.args.known.now c.args.cpu c.args.pcid c.args.page
    (take c.loop-entry.entry-index c.args.usable.now) _ c.entry-item.result c.loop-entry.list.items _ c.found_of-found.result
    (λ entry. IsIn-take entry c.args.usable.now c.loop-entry.entry-index c.entry-item.result c.loop-entry-test.true c.entry-item.is)
    c.loop-entry.invariant c.found_of-found.ensures c.in_ok-add_finding.ensures

pub returns : goal.returns
returns c =
    subst (λ (all : List HeldEntry). AreFoundOf (option_map target_of c.args.there.now) c.args.known.now c.args.cpu c.args.pcid c.args.page all c.loop-entry.list.items)
    (take_all c.loop-entry.entry-index c.args.usable.now c.loop-entry-test.false) c.loop-entry.invariant
