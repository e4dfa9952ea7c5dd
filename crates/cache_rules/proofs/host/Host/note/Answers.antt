use Rattle.std.proofs.Common.{rules}
use Rattle.cache_rules.proofs.KeptOrders.{before-as, ordered-as}
use Rattle.cache_rules.proofs.host.Host.note.Goals as goal
use Rattle.cache_rules.proofs.host.Host.note.Goals.{then-loses_all, else-loses_all}

pub invariant_of-self-2 : goal.invariant_of-self-2
invariant_of-self-2 c =
    let before = rw (← c.self.view_is) at c.requires in
    elim c.if-loses_all.branch [
      | then-loses_all w ↦ ordered-as _ _ c.args.now c.args.event.now c.removal_of-removal.result c.args.after.now c.self.invariant before (search rules) (search rules) (search rules)
      | else-loses_all w ↦ ordered-as _ _ c.args.now c.args.event.now c.removal_of-removal.result c.args.after.now c.self.invariant before (search rules) (search rules) (search rules)
    ]

pub returns-clause-before : goal.returns-clause-before
returns-clause-before c =
    let before = rw (← c.self.view_is) at c.requires in
    elim c.if-loses_all.branch [
      | then-loses_all w ↦ before-as _ _ c.args.now c.args.event.now c.removal_of-removal.result c.args.after.now before (search rules) (search rules)
      | else-loses_all w ↦ before-as _ _ c.args.now c.args.event.now c.removal_of-removal.result c.args.after.now before (search rules) (search rules)
    ]
