use Rattle.std.proofs.Common.{◌≤◌, ◌+◌, ◌-◌, arith, pow_mono}
use Rattle.proc_regs.proofs.paging.root.Goals as goal

pub returns-clause-below : goal.returns-clause-below
returns-clause-below c =
    let m = c.args.machine.now.m in
    let widest : m - 1 + 1 ≤ 52 = omega (arith, c.args.machine.now.least, c.args.machine.now.most) in
    omega (arith, c.in_place.ensures.below, pow_mono {i = m - 1 + 1} {j = 52} widest)
