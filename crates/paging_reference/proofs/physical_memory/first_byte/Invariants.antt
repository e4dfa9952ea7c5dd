use Rattle.std.proofs.Common.{◌≡◌, drop}
use Rattle.paging_model.specs.Memory.{byte_in}
use Rattle.paging_reference.specs.Extents.{extents_of}
use Rattle.paging_reference.proofs.physical_memory.first_byte.Given as goal

-- none of the parts so far covers the address
abbrev pub invariant-loop-extent : goal.invariant-loop-extent
invariant-loop-extent l = byte_in (extents_of (drop l.extent-index l.extents)) l.address ≡ byte_in (extents_of l.extents) l.address
