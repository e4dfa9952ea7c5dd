use Rattle.page_laws.proofs.PageCounts.{leaves-by_numbers}
use Rattle.page_laws.proofs.entries.pages_found_are_those_of_the_entries.Goals as goal

pub returns : goal.returns
returns c memory settings level table prefix above from count =
    leaves-by_numbers memory settings level table prefix above from count
