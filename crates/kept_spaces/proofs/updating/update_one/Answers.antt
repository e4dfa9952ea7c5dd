use Rattle.kept_spaces.proofs.Updates.{none-taken, was-planned}
use Rattle.kept_spaces.proofs.updating.update_one.Goals as goal

pub returns-in_default-clause-cost : goal.returns-in_default-clause-cost
returns-in_default-clause-cost g c = none-taken _ _ _ _ _ _

pub after_write-requires-clause-was_true : goal.after_write-requires-clause-was_true
after_write-requires-clause-was_true g c = was-planned _ _ _ _ _ _ c.in-Ok.ensures c.requires.was_true
