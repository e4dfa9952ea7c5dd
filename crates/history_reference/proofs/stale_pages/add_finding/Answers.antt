use Rattle.paging_reference.proofs.Membership.{IsIn-append_found}
use Rattle.history_reference.proofs.stale_pages.add_finding.Goals as goal

pub returns : goal.returns
returns c other =
    rw c.in_ok-push.ensures.items (IsIn-append_found other c.args.list.now.items c.args.finding c.in-Some.finding c.in-Some.is)
