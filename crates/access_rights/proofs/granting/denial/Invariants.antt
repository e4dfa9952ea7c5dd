-- None of the rules before refuses.
use Rattle.std.proofs.Common.{◌≡◌, false, take}
use Rattle.std.specs.List.{list_any}
use Rattle.paging_model.specs.AccessRights.{refuses}
use Rattle.access_rights.proofs.granting.denial.Given as goal

abbrev pub invariant-loop-rule : goal.invariant-loop-rule
invariant-loop-rule l = list_any (refuses l.regs l.access l.bits l.key) (take l.rule-index l.rule-items) ≡ false
