use Rattle.patch_laws.proofs.PatchRanges.{found-beneath, beneath-one}
use Rattle.patch_laws.proofs.updates.uses_found_are_beneath_their_patch.Goals as goal

pub returns-clause-beneath : goal.returns-clause-beneath
returns-clause-beneath c memory settings patch table is = found-beneath memory settings patch table is

pub returns-clause-one : goal.returns-clause-one
returns-clause-one c patches first second table ascending is is' beneath other = beneath-one patches first second table ascending is is' beneath other
