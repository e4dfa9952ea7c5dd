use Rattle.std.proofs.Common.{sym}
use Rattle.version_store.proofs.Packing.{length-changes_in}
use Rattle.version_store.proofs.frame_changes.FrameChanges.len.Goals as goal

pub returns : goal.returns
returns c = rw (sym c.self.view_is) (sym (length-changes_in _ _))
