use Rattle.std.proofs.Common.{List, subst}
use Rattle.paging_model.specs.Counting.{IsIn}
use Rattle.history_model.specs.declared.caches.Finding.{Finding}
use Rattle.history_reference.specs.GivenPages.{IsFirstFinding, IsStaleAmong}
use Rattle.history_reference.specs.Moments.{history_of}
use Rattle.history_reference.proofs.FirstFindings.{first-same}
use Rattle.history_reference.proofs.findings.first_finding.Goals as goal

pub returns : goal.returns
returns c =
    first-same (IsStaleAmong (history_of c.args.moment.now) c.args.cpu c.args.pcid c.args.pages.now) c.in_ok-stale.stale.items c.first_of.result
    c.in_ok-stale.ensures
    (subst (λ (all : List Finding). IsFirstFinding (λ finding. IsIn finding all) c.first_of.result) c.deref.ensures.value c.first_of.ensures)
