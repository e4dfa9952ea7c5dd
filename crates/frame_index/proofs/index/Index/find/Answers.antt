use Rattle.std.proofs.Common.{List, subst}
use Rattle.frame_index.specs.CountedUses.{IsFound}
use Rattle.frame_index.specs.declared.counted_use.CountedUse.{CountedUse}
use Rattle.frame_index.proofs.index.Index.find.Goals as goal

pub returns : goal.returns
returns c = subst (λ (uses : List CountedUse). IsFound c.args.level c.args.prefix uses c.find.result) c.self.view_is c.find.ensures
