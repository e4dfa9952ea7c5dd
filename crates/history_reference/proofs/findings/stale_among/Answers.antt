use Rattle.std.proofs.Common.{◌≡◌, ◌↔◌, ℕ, ◌+◌, List, ◌++◌, get_or, take, sym, ap, ◌∙◌, subst}
use Rattle.std.proofs.lemmas.List.{take_all}
use Rattle.paging_model.specs.Counting.{IsIn}
use Rattle.history_model.specs.declared.caches.Finding.{Finding}
use Rattle.history_reference.specs.GivenPages.{IsStaleAmong}
use Rattle.history_reference.specs.Moments.{history_of}
use Rattle.history_reference.proofs.FirstFindings.{stale-next}
use Rattle.paging_reference.proofs.Membership.{IsIn-take, any_default}
use Rattle.history_reference.proofs.findings.stale_among.Goals as goal

pub loop-page-preserved : goal.loop-page-preserved
loop-page-preserved c finding =
    let pages : List ℕ = c.args.pages.now in
    let i = c.loop-page.page-index in
    let added : c.extend_from_slice.new.self.items ≡ c.loop-page.list.items ++ c.in_ok-here.here.items =
    c.in_ok-extend_from_slice.ensures.items ∙ ap (λ (here : List Finding). c.loop-page.list.items ++ here) c.deref.ensures.value in
    subst (λ (list : List Finding). IsIn finding list ↔ IsStaleAmong (history_of c.args.moment.now) c.args.cpu c.args.pcid (take (i + 1) pages) finding)
    (sym added)
    (stale-next (history_of c.args.moment.now) c.args.cpu c.args.pcid (take i pages) (take (i + 1) pages) (get_or pages i 0)
    c.loop-page.list.items c.in_ok-here.here.items
    (λ page. IsIn-take page pages i (get_or pages i 0) c.loop-page-test.true (any_default pages i c.loop-page-test.true))
    c.loop-page.invariant c.in_ok-here.ensures finding)

pub returns : goal.returns
returns c finding =
    subst (λ (all : List ℕ). IsIn finding c.loop-page.list.items ↔ IsStaleAmong (history_of c.args.moment.now) c.args.cpu c.args.pcid all finding)
    (take_all c.loop-page.page-index c.args.pages.now c.loop-page-test.false) (c.loop-page.invariant finding)
