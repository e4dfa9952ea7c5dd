use Rattle.paging_laws.proofs.MappedPages.{mapped_alike}
use Rattle.paging_laws.proofs.leaves.leaf_maps_its_range.Goals as goal

pub returns : goal.returns
returns c memory settings root x y page maps same = mapped_alike maps y same
