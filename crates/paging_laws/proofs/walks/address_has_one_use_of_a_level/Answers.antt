use Rattle.paging_laws.proofs.Serving.{served_by_one}
use Rattle.paging_laws.proofs.walks.address_has_one_use_of_a_level.Goals as goal

pub returns : goal.returns
returns c memory settings root x one other is_one is_other level served other_served =
    served_by_one x one other is_one is_other level served other_served
