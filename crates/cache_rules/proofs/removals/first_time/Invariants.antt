use Rattle.std.proofs.Common.{◌≡◌, drop}
use Rattle.cache_rules.specs.Removals.{first_time}
use Rattle.cache_rules.proofs.removals.first_time.Given as goal

abbrev pub invariant-loop-removed : goal.invariant-loop-removed
invariant-loop-removed l = first_time (drop l.removed-index l.removals) l.key ≡ first_time l.removals l.key
