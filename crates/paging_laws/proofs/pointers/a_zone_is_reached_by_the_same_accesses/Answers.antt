use Rattle.paging_laws.proofs.ZoneLaws.{reaches-zone}
use Rattle.paging_laws.proofs.pointers.a_zone_is_reached_by_the_same_accesses.Goals as goal

pub returns : goal.returns
returns c regs access x y zone = reaches-zone regs access x y zone
