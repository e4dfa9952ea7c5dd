use Rattle.paging_laws.proofs.WholeLists.{IsIn-rules}
use Rattle.paging_laws.proofs.denials.each_rule_is_in_the_order.Goals as goal

pub returns : goal.returns
returns c rule = IsIn-rules rule
