-- Frames whose flag isn't set.
use Rattle.std.proofs.Common.{◌≡◌, ℕ, Bool, false, List, [], Option, ap}
use Rattle.paging_model.specs.declared.spaces.TableUse.{TableUse}
use Rattle.frame_index.specs.CountedUses.{AreThose}
use Rattle.frame_index.specs.FrameFlags.{HaveFlags, frame_flag}
use Rattle.frame_index.specs.Records.{records_in}
use Rattle.frame_index.specs.declared.counted_use.CountedUse.{CountedUse}
use Rattle.frame_index.proofs.Slots.{slot_from_is_in}

pub none_of_frame : (slots : List (Option CountedUse)) (flags : List Bool) (frame : ℕ) → HaveFlags slots flags → frame_flag flags frame ≡ false → AreThose (λ (table : TableUse). table.frame ≡ frame) (records_in slots) []
none_of_frame slots flags frame have clear = record {
  were = λ table is. absurd is;
  others = λ one is same.
      let found = slot_from_is_in slots one is in
      let set = have found.0 one found.1 in
      let at = ap (frame_flag flags) same in
      absurd (cc);
  ordered = tt;
}
