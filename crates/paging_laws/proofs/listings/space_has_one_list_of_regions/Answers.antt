use Rattle.paging_laws.proofs.OneListing.{regions_are_one}
use Rattle.paging_laws.proofs.listings.space_has_one_list_of_regions.Goals as goal

pub returns : goal.returns
returns c memory settings root one other are_one are_other = regions_are_one memory settings root one other are_one are_other
