use Rattle.kept_spaces.proofs.Updates.{updated-kept}
use Rattle.kept_spaces.proofs.kept.KeptSpaces.update.Goals as goal

pub invariant_of-self-else-is_err : goal.invariant_of-self-else-is_err
invariant_of-self-else-is_err g c =
    updated-kept c.update_all-updated.result _ _ _ (rw c.is_err.ensures.value at c.if-is_err.false) c.update_all-updated.ensures.ok c.self.invariant
