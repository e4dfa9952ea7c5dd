use Rattle.paging_laws.proofs.OneListing.{areas_are_one}
use Rattle.paging_laws.proofs.listings.space_has_one_list_of_areas.Goals as goal

pub returns : goal.returns
returns c memory machine regs one other are_one are_other = areas_are_one memory machine regs one other are_one are_other
