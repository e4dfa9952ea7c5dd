use Rattle.std.proofs.Common.{sym, ◌∙◌, ◌*◌}
use Rattle.version_store.proofs.Earlier.{none_after}
use Rattle.version_store.proofs.frame_changes.FrameChanges.changed_after.Goals as goal

pub loop-number-init : goal.loop-number-init
loop-number-init c = record {
  value = λ i below. c.none-slots.ensures.value i below ∙ sym (none_after _ (8 * i) c.args.time c.count_until-number.ensures.early);
  len = c.none-slots.ensures.len;
}
