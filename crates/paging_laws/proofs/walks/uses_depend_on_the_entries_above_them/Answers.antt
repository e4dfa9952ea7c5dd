use Rattle.paging_laws.proofs.Readings.{use-alike}
use Rattle.paging_laws.proofs.walks.uses_depend_on_the_entries_above_them.Goals as goal

pub returns : goal.returns
returns c one other settings root table is_use alike = use-alike one other settings root table is_use alike
