use Rattle.paging_laws.proofs.OneListing.{target_in-union}
use Rattle.paging_laws.proofs.listings.stretches_that_make_one_map_as_one.Goals as goal

pub returns-clause-areas : goal.returns-clause-areas
returns-clause-areas c five_levels one other rest page is_one is_other makes_one =
    target_in-union five_levels one other rest page is_one is_other makes_one

pub returns-clause-regions : goal.returns-clause-regions
returns-clause-regions c five_levels one other rest page is_one is_other makes_one =
    target_in-union five_levels one other rest page is_one is_other makes_one
