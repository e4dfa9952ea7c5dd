use Rattle.std.proofs.Common.{◌≡◌, ℕ, drop}
use Rattle.std.specs.Prelude.{◌||◌}
use Rattle.stay_times.specs.Periods.{is_during}
use Rattle.time_sets.specs.Sets.{has_time}
use Rattle.stay_times.proofs.periods.times_of.Given as goal

-- the times of the stays so far, and those of the rest, are all
abbrev pub invariant-loop-i : goal.invariant-loop-i
invariant-loop-i l = record {
  so_far : (t : ℕ) → (has_time l.times t || is_during l.wanted l.horizon l.now (drop l.i l.past) t) ≡ is_during l.wanted l.horizon l.now l.past t;
}
