use Rattle.paging_laws.proofs.WholeSpaces.{too_large-by_counts, within_limits-by_counts}
use Rattle.paging_laws.proofs.spaces.found_numbers_decide_the_size.Goals as goal

pub returns-clause-too_large : goal.returns-clause-too_large
returns-clause-too_large c memory settings root = too_large-by_counts memory settings root

pub returns-clause-within : goal.returns-clause-within
returns-clause-within c memory settings root = within_limits-by_counts memory settings root
