use Rattle.paging_laws.proofs.EntryLaws.{uses_in-range, leaves_in-range}
use Rattle.paging_laws.proofs.entries.parts_lie_in_the_ranges_of_their_entries.Goals as goal

pub returns-clause-uses : goal.returns-clause-uses
returns-clause-uses c memory settings level table prefix above from count one is_in = uses_in-range memory settings level table prefix above from count one is_in

pub returns-clause-leaves : goal.returns-clause-leaves
returns-clause-leaves c memory settings level table prefix above from count one is_in = leaves_in-range memory settings level table prefix above from count one is_in
