use Rattle.std.proofs.Common.{◌≡◌, ◌-◌, ◌≤◌, rules, true}
use Rattle.present_pages.specs.declared.ranges.There.TheVariants as there
use Rattle.version_store.specs.Changes.{last_kept_time}
use Rattle.stale_audit.proofs.SteadyTableLaws.{all_steady, steady-settled}
use Rattle.stale_audit.proofs.descent.is_settled.Goals as goal

pub returns-then-last_time-horizon-clause-settled : goal.returns-then-last_time-horizon-clause-settled
returns-then-last_time-horizon-clause-settled g c is =
    let leads : c.args.range.there ≡ there.Table c.args.table c.args.bits = search rules in
    let one : c.had_one_nxe.result ≡ true = search rules in
    let unchanged : last_kept_time c.args.point.now.kept ≤ c.args.point.now.host.horizon = search rules in
    steady-settled c.args.point.now c.args.range c.args.table c.args.bits c.requires.ready (c.had_one_nxe.ensures one) c.requires.home leads
    (all_steady c.args.point.now (c.args.range.level - 1) c.args.table unchanged)

pub returns-clause-settled : goal.returns-clause-settled
returns-clause-settled g c is =
    let leads : c.args.range.there ≡ there.Table c.args.table c.args.bits = search rules in
    let one : c.had_one_nxe.result ≡ true = search rules in
    steady-settled c.args.point.now c.args.range c.args.table c.args.bits c.requires.ready (c.had_one_nxe.ensures one) c.requires.home leads (c.is_steady.ensures.steady is)
