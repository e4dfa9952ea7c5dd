-- What always holds of the records of an index as a whole.
use Rattle.frame_index.specs.FrameFlags.{HaveFlags}
use Rattle.frame_index.specs.Records.{AreFiled}
use Rattle.frame_index.specs.declared.records.Records.{Records}

-- both maps lead to all records
abbrev pub IsInOrder : Records → Type 0
IsInOrder records = AreFiled records.slab.slots records.places records.frames records.pages

-- the flag of each record's frame is set
abbrev pub IsFlagged : Records → Type 0
IsFlagged records = HaveFlags records.slab.slots records.seen.flags.items
