use Rattle.std.proofs.Common.{◌-◌, ◌≤◌, rules}
use Rattle.version_store.specs.Changes.{last_kept_time}
use Rattle.stale_audit.proofs.SteadyTableLaws.{all_steady}
use Rattle.stale_audit.proofs.slots_to_audit.are_unchanged_below.Goals as goal

pub returns-else-level-eq1-clause-unchanged : goal.returns-else-level-eq1-clause-unchanged
returns-else-level-eq1-clause-unchanged g c is =
    let unchanged : last_kept_time c.args.point.now.kept ≤ c.args.point.now.host.horizon = search rules in
    λ slot frame bits h. all_steady c.args.point.now (c.args.level - 1) frame unchanged
