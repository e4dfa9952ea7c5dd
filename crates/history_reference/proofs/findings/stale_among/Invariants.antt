use Rattle.std.proofs.Common.{◌↔◌, take}
use Rattle.paging_model.specs.Counting.{IsIn}
use Rattle.history_model.specs.declared.caches.Finding.{Finding}
use Rattle.history_reference.specs.GivenPages.{IsStaleAmong}
use Rattle.history_reference.specs.Moments.{history_of}
use Rattle.history_reference.proofs.findings.stale_among.Given as goal

-- what is stale at the pages so far
abbrev pub invariant-loop-page : goal.invariant-loop-page
invariant-loop-page l =
    (finding : Finding) → IsIn finding l.list.items ↔ IsStaleAmong (history_of l.moment) l.cpu l.pcid (take l.page-index l.pages) finding
