-- As far as the loop has come, the accesses that none of the rules before refuses are granted.
use Rattle.std.proofs.Common.{◌≡◌, not, take}
use Rattle.std.specs.List.{list_any}
use Rattle.paging_model.specs.AccessSets.{has}
use Rattle.paging_model.specs.AccessRights.{refuses}
use Rattle.paging_model.specs.declared.access.Access.{Access}
use Rattle.access_rights.proofs.granting.rights.Given as goal

abbrev pub invariant-loop-rule : goal.invariant-loop-rule
invariant-loop-rule l =
    (access : Access) → has l.granted access ≡ not (list_any (refuses l.regs access l.bits l.key) (take l.rule-index l.rule-items))
