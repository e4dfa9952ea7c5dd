use Rattle.std.proofs.Common.{arith, ◌∙◌, sym}
use Rattle.std.proofs.lemmas.Result.{on_ok_weaker}
use Rattle.region_map.specs.Coalesced.{stretches, target_at}
use Rattle.region_map.proofs.Copied.{after-copied}
use Rattle.region_map.proofs.Mapping.{none-past}
use Rattle.region_map.proofs.copying.copy_after.Goals as goal

pub returns-then-last-eq18446744073709551615-clause-after : goal.returns-then-last-eq18446744073709551615-clause-after
returns-then-last-eq18446744073709551615-clause-after c x after =
    c.requires.unmapped x after ∙ sym (none-past (stretches c.args.list.now) x c.requires.list.ranges (omega arith))

pub returns-clause-after : goal.returns-clause-after
returns-clause-after c =
    on_ok_weaker c.copy_range.result
    (after-copied c.args.last c.args.list.now (target_at c.args.regions.now) (target_at c.copy_range.new.regions) c.requires.list.ranges c.requires.unmapped)
    c.copy_range.ensures
