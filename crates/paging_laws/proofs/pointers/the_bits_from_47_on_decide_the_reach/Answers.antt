use Rattle.paging_laws.proofs.ZoneLaws.{reaches-same}
use Rattle.paging_laws.proofs.pointers.the_bits_from_47_on_decide_the_reach.Goals as goal

pub returns : goal.returns
returns c regs access x y below same = reaches-same regs access x y below same
