use Rattle.paging_reference.proofs.Membership.{IsIn-append_found}
use Rattle.paging_reference.proofs.table_uses.add_use.Goals as goal

pub returns : goal.returns
returns c table =
    rw c.in_ok-push.ensures.items (IsIn-append_found table c.args.list.now.items c.args.found c.in-Some.table c.in-Some.is)
