use Rattle.std.proofs.Common.{◌≡◌, ℕ, ◌*◌, ◌<◌, false, length, take}
use Rattle.std.specs.Prelude.{slice_index_or}
use Rattle.version_store.specs.Changes.{is_changed}
use Rattle.version_store.proofs.frame_changes.FrameChanges.changed_slots.Given as goal

abbrev pub invariant-loop-number : goal.invariant-loop-number
invariant-loop-number l = record {
  value : (i : ℕ) → i < 512
      → slice_index_or l.changed i false ≡ is_changed (take l.number l.self) (8 * i);
  len : length l.changed ≡ 512;
}
