use Rattle.std.proofs.Common.{◌≡◌, ℕ, ◌*◌, ◌<◌, false, length, take}
use Rattle.std.specs.Prelude.{slice_index_or}
use Rattle.version_store.specs.Changes.{is_changed_after}
use Rattle.version_store.proofs.frame_changes.FrameChanges.changed_after.Given as goal

abbrev pub invariant-loop-number : goal.invariant-loop-number
invariant-loop-number l = record {
  value : (i : ℕ) → i < 512
      → slice_index_or l.slots i false ≡ is_changed_after (take l.number l.self) (8 * i) l.time;
  len : length l.slots ≡ 512;
}
