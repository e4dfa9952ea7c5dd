use Rattle.page_laws.proofs.SpaceCounts.{all-by_numbers}
use Rattle.page_laws.proofs.entries.pages_of_a_space_are_those_of_its_tables.Goals as goal

pub returns : goal.returns
returns c memory settings root uses all = all-by_numbers memory settings root uses all
