use Rattle.std.proofs.Common.{◌≡◌, ℕ, ◌+◌, ◌*◌, ◌/◌, ◌%◌, Option, Some, None, false, refl, arith, rules, subst}
use Rattle.std.specs.Prelude.{slice_index_or}
use Rattle.stale_audit.specs.SlotEntries.{IsSteadySlot}
use Rattle.stale_audit.proofs.slot_values.slot_values.Goals as goal

pub returns-then-not-has : goal.returns-then-not-has
returns-then-not-has g c =
    let aligned = c.requires.timed.frame.aligned in
    let inside = c.requires.inside in
    let slot = c.requires.slot in
    let unchanged : slice_index_or c.args.table.now.changed (c.args.address % 4096 / 8) false ≡ false = search rules in
    let place : c.args.table.now.frame + 8 * (c.args.address % 4096 / 8) ≡ c.args.address = omega (arith, aligned, inside, slot) in
    let steady : IsSteadySlot c.args.point.now c.args.address =
    subst (IsSteadySlot c.args.point.now) place (c.requires.timed.unchanged (c.args.address % 4096 / 8) (omega arith) unchanged) in
    (record { begins = refl; order = c.requires.order; same = λ t since until. steady c.args.present t since }, not-some, refl)
  where
    not-some : ◌≡◌ {A = Option ℕ} None (Some c.args.present) → ⊥
    not-some h = absurd (cc)
