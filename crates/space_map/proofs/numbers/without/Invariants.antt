use Rattle.std.proofs.Common.{◌≡◌, ◌-◌, take}
use Rattle.std.specs.Prelude.{sum}
use Rattle.space_map.proofs.numbers.without.Given as goal

abbrev pub invariant-loop-some : goal.invariant-loop-some
invariant-loop-some l = l.left ≡ l.all - sum (take l.some-index l.pages)
