use Rattle.std.proofs.Common.{◌≤◌, ◌-◌, length, ap, arith}
use Rattle.version_store.proofs.Earlier.{early_until, is_early}
use Rattle.version_store.proofs.Packing.{length-changes_in}
use Rattle.version_store.proofs.frame_changes.FrameChanges.count_until.Goals as goal

pub returns-else-get-time-clause-early : goal.returns-else-get-time-clause-early
returns-else-get-time-clause-early c =
    let within : c.loop-count.count ≤ c.self.inside.len =
    let long = length-changes_in c.self.inside.blocks.items c.self.inside.len in
    let same = ap length c.self.view_is in
    let below = c.loop-count.invariant in
    omega (arith, long, same, below) in
    early_until _ _ _ c.args.time c.args.self.now c.self.view_is (c.self.invariant.order c.if-not-self.false) within
    (λ i is. is_early c.self.inside.blocks.items c.self.inside.len c.args.time i (c.loop-count.count - 1) c.args.self.now c.get.result c.self.view_is (omega (arith, within, is)) (omega (arith, is)) c.get.ensures.value c.if-get-time.false)
