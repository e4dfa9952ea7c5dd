use Rattle.paging_laws.proofs.FoundUses.{all-uses_in, all-leaves_in}
use Rattle.paging_laws.proofs.entries.parts_of_reached_entries_are_all_of_their_range.Goals as goal

pub returns-clause-uses : goal.returns-clause-uses
returns-clause-uses c memory settings root level table prefix above from count reached = all-uses_in memory settings root level table prefix above from count reached

pub returns-clause-leaves : goal.returns-clause-leaves
returns-clause-leaves c memory settings root level table prefix above from count reached = all-leaves_in memory settings root level table prefix above from count reached
