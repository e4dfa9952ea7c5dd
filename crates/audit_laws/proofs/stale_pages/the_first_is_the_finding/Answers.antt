use Rattle.audit_laws.proofs.FirstLaws.{first-worst, first-none}
use Rattle.audit_laws.proofs.stale_pages.the_first_is_the_finding.Goals as goal

pub returns-clause-found : goal.returns-clause-found
returns-clause-found c history cpu pcid first p = first-worst history cpu pcid first p

pub returns-clause-none : goal.returns-clause-none
returns-clause-none c history cpu pcid p = first-none history cpu pcid p
