use Rattle.std.proofs.Common.{sym, arith}
use Rattle.version_store.proofs.Earlier.{passed_until}
use Rattle.version_store.proofs.frame_changes.FrameChanges.first_after.Goals as goal

pub loop-number-init : goal.loop-number-init
loop-number-init c = sym ((passed_until c.args.self.now c.count_until-number.result c.args.offset c.args.time c.count_until-number.ensures.early).same c.args.time (omega arith))
