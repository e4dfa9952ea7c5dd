use Rattle.walk_levels.proofs.OwnFrames.{own_frame-within}
use Rattle.walk_levels.proofs.linear_addresses.own_frame.Goals as goal

pub returns-clause-aligned : goal.returns-clause-aligned
returns-clause-aligned c =
    rw c.span.ensures.value
    ((own_frame-within c.args.level c.args.frame c.args.address c.requires.least c.requires.most c.requires.aligned c.requires.ends).0)

pub returns-clause-ends : goal.returns-clause-ends
returns-clause-ends c =
    rw c.span.ensures.value
    ((own_frame-within c.args.level c.args.frame c.args.address c.requires.least c.requires.most c.requires.aligned c.requires.ends).1)
