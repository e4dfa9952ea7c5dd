use Rattle.paging_laws.proofs.ReachLaws.{reaches_is}
use Rattle.paging_laws.proofs.pointers.each_rule_of_pointers_may_keep_an_access_away.Goals as goal

pub returns : goal.returns
returns c regs access x = reaches_is regs x access
