use Rattle.paging_laws.proofs.EntryLaws.{uses_in-distinct, leaves_in-distinct}
use Rattle.paging_laws.proofs.entries.parts_are_distinct.Goals as goal

pub returns-clause-uses : goal.returns-clause-uses
returns-clause-uses c memory settings level table prefix above from count = uses_in-distinct memory settings level table prefix above from count

pub returns-clause-leaves : goal.returns-clause-leaves
returns-clause-leaves c memory settings level table prefix above from count = leaves_in-distinct memory settings level table prefix above from count
