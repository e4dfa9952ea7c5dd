-- Segments as extents of physical memory, apart from where in the file's bytes they lie.
use Rattle.std.specs.Prelude.{List, map}
use Rattle.paging_model.specs.Memory.{Extent}
use Rattle.elf_core.specs.declared.segment.Segment.{Segment}

abbrev pub extent : Segment → Extent
extent segment = record { start = segment.phys; bytes = segment.bytes.now }

abbrev pub extents : List Segment → List Extent
extents segments = map extent segments
