use Rattle.patch_laws.proofs.TouchedUses.{touched-are}
use Rattle.patch_laws.proofs.updates.uses_found_are_the_touched_ones.Goals as goal

pub returns : goal.returns
returns c at n one other key patches alike are whole = touched-are at n one other key patches alike are whole
