use Rattle.paging_model.proofs.Denials.{none_exactly_where_granted}
use Rattle.paging_laws.proofs.denials.denied_by_no_rule_is_granted.Goals as goal

pub returns : goal.returns
returns c regs access bits key = none_exactly_where_granted regs access bits key
