use Rattle.std.proofs.Common.{◌≡◌, ℕ, true, take}
use Rattle.std.specs.Prelude.{◌↔◌}
use Rattle.cache_rules.specs.Removals.{removed_in}
use Rattle.time_sets.specs.Sets.{has_time}
use Rattle.held_times.specs.HeldTimes.{IsHeldAt}
use Rattle.held_times.proofs.times.held_times.Given as goal

-- what was made in the intervals so far is held
abbrev pub invariant-loop-first : goal.invariant-loop-first
invariant-loop-first l = record {
  held : (u : ℕ)
      → has_time l.held u ≡ true ↔ IsHeldAt (removed_in l.host.removals l.key) (take l.first-index l.first-items) l.now u;
}
