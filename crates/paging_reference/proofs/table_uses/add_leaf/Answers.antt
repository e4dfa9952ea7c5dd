use Rattle.paging_reference.proofs.Membership.{IsIn-append_found}
use Rattle.paging_reference.proofs.table_uses.add_leaf.Goals as goal

pub returns : goal.returns
returns c leaf =
    rw c.in_ok-push.ensures.items (IsIn-append_found leaf c.args.list.now.items c.args.found c.in-Some.leaf c.in-Some.is)
