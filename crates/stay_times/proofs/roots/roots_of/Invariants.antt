use Rattle.std.proofs.Common.{◌≡◌, ℕ, List, Some, drop}
use Rattle.std.specs.Prelude.{◌||◌}
use Rattle.std.specs.BTreeMap.{get}
use Rattle.std.specs.Ordering.{nat_cmp}
use Rattle.stay_times.specs.Periods.{HasSomeTime, has_if, is_during, under_root}
use Rattle.stay_times.proofs.roots.roots_of.Given as goal

-- for each root, the times of the stays so far, and those of the rest, are all
abbrev pub invariant-loop-i : goal.invariant-loop-i
invariant-loop-i l = record {
  so_far : (root t : ℕ) → (has_if (get nat_cmp l.roots root) t || is_during (under_root l.pcid root) l.horizon l.now (drop l.i l.past) t) ≡ is_during (under_root l.pcid root) l.horizon l.now l.past t;
  some : (root : ℕ) (times : List (ℕ × ℕ)) → get nat_cmp l.roots root ≡ Some times → HasSomeTime times;
}
