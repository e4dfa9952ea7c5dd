use Rattle.paging_laws.proofs.MappedPages.{leaf_is_one}
use Rattle.paging_laws.proofs.leaves.address_has_one_leaf.Goals as goal

pub returns : goal.returns
returns c memory settings root x one other is_one is_other served other_served =
    leaf_is_one x one other is_one is_other served other_served
