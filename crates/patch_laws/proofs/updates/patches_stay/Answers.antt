use Rattle.patch_laws.proofs.SpaceUpdates.{patches-there}
use Rattle.patch_laws.proofs.updates.patches_stay.Goals as goal

pub returns : goal.returns
returns c written one other settings root patches alike are = patches-there written one other settings root patches alike are
