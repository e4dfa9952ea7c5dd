use Rattle.paging_laws.proofs.SpaceHalves.{in_half}
use Rattle.paging_laws.proofs.spaces.canonical_addresses_lie_in_the_halves.Goals as goal

pub returns : goal.returns
returns c settings x before canonical = in_half settings x before canonical
