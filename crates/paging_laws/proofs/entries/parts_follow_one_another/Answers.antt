use Rattle.paging_laws.proofs.EntryLaws.{uses_in-append, leaves_in-append}
use Rattle.paging_laws.proofs.entries.parts_follow_one_another.Goals as goal

pub returns-clause-uses : goal.returns-clause-uses
returns-clause-uses c memory settings level table prefix above from count more = uses_in-append memory settings level table prefix above from count more

pub returns-clause-leaves : goal.returns-clause-leaves
returns-clause-leaves c memory settings level table prefix above from count more = leaves_in-append memory settings level table prefix above from count more
