-- The ranges of the top table's entries.
use Rattle.std.proofs.Common.{refl}
use Rattle.paging_laws.proofs.examples.halves.Goals as goal

pub returns : goal.returns
returns c settings five_levels = record { upper = refl; upper_five = rw five_levels refl; last_five = rw five_levels refl }
