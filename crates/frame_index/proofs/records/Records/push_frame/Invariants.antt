use Rattle.std.proofs.Common.{◌≡◌, ◌++◌}
use Rattle.frame_index.specs.Records.{tables_of}
use Rattle.frame_index.proofs.records.Records.push_frame.Given as goal

abbrev pub invariant-loop-slot : goal.invariant-loop-slot
invariant-loop-slot l =
    l.tables.items ++ tables_of l.self.slab.slots l.slot-iterator
    ≡ l.initial.tables.items ++ tables_of l.initial.self.slab.slots l.initial.slot-iterator
