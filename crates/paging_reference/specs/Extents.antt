-- Known bytes as extents of physical memory.
use Rattle.std.specs.Prelude.{List, map}
use Rattle.paging_model.specs.Memory.{Extent}
use Rattle.paging_reference.specs.declared.physical_memory.KnownBytes.{KnownBytes}

abbrev pub extents_of : List KnownBytes → List Extent
extents_of parts = map (λ part. record { start = part.start; bytes = part.bytes.items }) parts
