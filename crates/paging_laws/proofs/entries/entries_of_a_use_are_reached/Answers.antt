use Rattle.paging_laws.proofs.ReachedUses.{use-reached}
use Rattle.paging_laws.proofs.entries.entries_of_a_use_are_reached.Goals as goal

pub returns : goal.returns
returns c memory settings root table from count is_use lower slots = use-reached memory settings root table from count is_use lower slots
