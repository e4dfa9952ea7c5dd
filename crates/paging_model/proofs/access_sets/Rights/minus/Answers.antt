use Rattle.std.proofs.Common.{◌-◌, sym, refl, arith}
use Rattle.paging_model.proofs.SetBits.{bit-bit_and, bit-bit_not, access_bit-lt}
use Rattle.paging_model.specs.AccessSets.{access_bit}
use Rattle.paging_model.proofs.access_sets.Rights.minus.Goals as goal

pub returns : goal.returns
returns c access =
    rw (sym c.self.view_is, sym c.other.view_is, bit-bit_and c.self.inside.number (255 - c.other.inside.number) (access_bit access), bit-bit_not c.other.inside.number (access_bit access) (omega arith) (access_bit-lt access)) refl
