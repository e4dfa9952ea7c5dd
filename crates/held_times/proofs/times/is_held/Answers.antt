use Rattle.cache_rules.specs.Removals.{removed_in}
use Rattle.held_times.proofs.LastLaws.{held-last, held-none}
use Rattle.held_times.proofs.times.is_held.Goals as goal

pub returns-in_default : goal.returns-in_default
returns-in_default c =
    held-none (removed_in c.args.host.now.removals c.args.key.now) c.args.made.now c.args.now c.in_default.ensures

pub returns : goal.returns
returns c =
    held-last (removed_in c.args.host.now.removals c.args.key.now) c.args.made.now c.args.now c.in-Some.last c.is_spared.result
    c.in-Some.ensures c.requires.within c.is_spared.ensures
