use Rattle.paging_laws.proofs.MappedPages.{leaf_for}
use Rattle.paging_laws.proofs.leaves.each_mapped_page_has_a_leaf.Goals as goal

pub returns : goal.returns
returns c memory settings root x page below canonical maps = leaf_for below canonical maps
