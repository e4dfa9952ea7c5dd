use Rattle.std.proofs.Common.{sym}
use Rattle.paging_model.specs.AccessSets.{access_bit}
use Rattle.paging_model.proofs.SetBits.{bit-bit_or}
use Rattle.paging_model.proofs.access_sets.Rights.join.Goals as goal

pub returns : goal.returns
returns c access = rw (sym c.self.view_is, sym c.other.view_is) (bit-bit_or c.self.inside.number c.other.inside.number (access_bit access))
