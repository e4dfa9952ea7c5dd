use Rattle.paging_laws.proofs.EntryLaws.{uses_in-one, leaves_in-one}
use Rattle.paging_laws.proofs.entries.an_entry_has_the_parts_of_its_meaning.Goals as goal

pub returns-clause-uses : goal.returns-clause-uses
returns-clause-uses c memory settings level table prefix above i some = uses_in-one memory settings level table prefix above i some

pub returns-clause-leaves : goal.returns-clause-leaves
returns-clause-leaves c memory settings level table prefix above i some = leaves_in-one memory settings level table prefix above i some
