use Rattle.paging_laws.proofs.Reaching.{use_is_one}
use Rattle.paging_laws.proofs.walks.prefix_has_one_use.Goals as goal

pub returns : goal.returns
returns c memory settings root one other is_use is_other level prefix = use_is_one one other is_use is_other level prefix
