use Rattle.patch_laws.proofs.SpaceUpdates.{uses-updated}
use Rattle.patch_laws.proofs.updates.uses_left_and_found_are_all.Goals as goal

pub returns : goal.returns
returns c written one other settings root patches all left alike are are_all are_left = uses-updated written one other settings root patches all left alike are are_all are_left
