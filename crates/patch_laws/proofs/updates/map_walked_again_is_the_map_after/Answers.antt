use Rattle.patch_laws.proofs.SpaceUpdates.{pages-updated, canonical-updated}
use Rattle.patch_laws.proofs.updates.map_walked_again_is_the_map_after.Goals as goal

pub returns-clause-pages : goal.returns-clause-pages
returns-clause-pages c written one other settings root patches old new alike are map was = pages-updated written one other settings root patches old new alike are map was

pub returns-clause-canonical : goal.returns-clause-canonical
returns-clause-canonical c written one other settings root patches old new are map was = canonical-updated written one other settings root patches old new are map was
