use Rattle.area_list.proofs.Listed.{keys-listed}
use Rattle.area_list.proofs.listing.keys_of_a_space_are_below_16.Goals as goal

pub returns : goal.returns
returns c = keys-listed
