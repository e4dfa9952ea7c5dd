use Rattle.slab.specs.Slab.{slab_len}
use Rattle.frame_index.specs.FrameFlags.{HaveFlags}
use Rattle.frame_index.specs.Records.{AreFiled, records_in}
use Rattle.frame_index.proofs.Gone.{GoneSoFar}
use Rattle.frame_index.proofs.records.Records.remove_level.Given as goal

abbrev pub invariant-loop-slot : goal.invariant-loop-slot
invariant-loop-slot l = record {
  filed : AreFiled l.self.slab.slots l.self.places l.self.frames l.self.pages;
  flags : HaveFlags l.self.slab.slots l.self.seen.flags.items;
  gone : GoneSoFar l.first l.last l.level (records_in l.initial.self.slab.slots) (records_in l.self.slab.slots);
}

abbrev pub decreases-loop-slot : goal.decreases-loop-slot
decreases-loop-slot l = slab_len l.self.slab
