use Rattle.std.proofs.Common.{sym}
use Rattle.phys_view.proofs.BlockBytes.{filled-none, filled-known, filled-unknown}
use Rattle.phys_view.proofs.view.View.fill.Goals as goal

pub loop-offset-init : goal.loop-offset-init
loop-offset-init g c = filled-none _ _ _ c.requires.len

pub loop-offset-preserved-in-Known : goal.loop-offset-preserved-in-Known
loop-offset-preserved-in-Known g c =
    let was = rw (sym c.self.view_is) at c.loop-offset.invariant in
    rw (sym c.self.view_is) (filled-known _ _ _ _ _ _ _ was c.in-Known.ensures c.min-known.ensures c.put.ensures.value)

pub loop-offset-preserved : goal.loop-offset-preserved
loop-offset-preserved g c =
    let was = rw (sym c.self.view_is) at c.loop-offset.invariant in
    rw (sym c.self.view_is) (filled-unknown _ _ _ _ _ _ was c.in-Unknown.ensures c.min.ensures)
