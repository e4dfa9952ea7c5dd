use Rattle.std.proofs.Common.{ℕ, ◌≡◌, ◌<◌, ◌+◌, ◌-◌, ◌*◌, ◌%◌, arith}
use Rattle.std.proofs.lemmas.Nat.{shl_whole, shl_below, pow_pos}
use Rattle.proc_regs.proofs.bit_ranges.in_place.Goals as goal

multiple : (a p : ℕ) → 0 < p → a * p % p ≡ 0
multiple a p some = grind arith

pub returns-clause-aligned : goal.returns-clause-aligned
returns-clause-aligned c =
    rw (shl_whole c.field.result (c.args.high + 1 - c.args.low) c.args.low 64 c.field.ensures.below (omega arith)) (multiple _ _ (pow_pos c.args.low))

pub returns-clause-below : goal.returns-clause-below
returns-clause-below c =
    let whole : c.args.high + 1 - c.args.low + c.args.low ≡ c.args.high + 1 = omega arith in
    rw (shl_whole c.field.result (c.args.high + 1 - c.args.low) c.args.low 64 c.field.ensures.below (omega arith))
    (rw whole at (shl_below c.field.result (c.args.high + 1 - c.args.low) c.args.low c.field.ensures.below))
