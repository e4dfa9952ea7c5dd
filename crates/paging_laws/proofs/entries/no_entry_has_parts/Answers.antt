use Rattle.paging_laws.proofs.EntryLaws.{uses_in-none, leaves_in-none}
use Rattle.paging_laws.proofs.entries.no_entry_has_parts.Goals as goal

pub returns-clause-uses : goal.returns-clause-uses
returns-clause-uses c memory settings level table prefix above from = uses_in-none memory settings level table prefix above from

pub returns-clause-leaves : goal.returns-clause-leaves
returns-clause-leaves c memory settings level table prefix above from = leaves_in-none memory settings level table prefix above from
