use Rattle.frame_index.specs.FrameFlags.{HaveFlags}
use Rattle.frame_index.specs.Records.{AreFiled, records_in}
use Rattle.frame_index.proofs.Gone.{GoneBelow}
use Rattle.frame_index.proofs.records.Records.remove_under.Given as goal

abbrev pub invariant-loop-lower : goal.invariant-loop-lower
invariant-loop-lower l = record {
  filed : AreFiled l.self.slab.slots l.self.places l.self.frames l.self.pages;
  flags : HaveFlags l.self.slab.slots l.self.seen.flags.items;
  gone : GoneBelow l.first l.last l.level l.lower (records_in l.initial.self.slab.slots) (records_in l.self.slab.slots);
}
