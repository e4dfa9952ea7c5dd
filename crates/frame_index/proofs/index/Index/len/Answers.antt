use Rattle.std.proofs.Common.{sym, ap, ◌∙◌, length}
use Rattle.frame_index.proofs.Slots.{length-records_in}
use Rattle.frame_index.proofs.index.Index.len.Goals as goal

pub returns : goal.returns
returns c = c.len.ensures ∙ sym (length-records_in c.before.self.inside.records.slab.slots) ∙ ap length c.self.view_is
