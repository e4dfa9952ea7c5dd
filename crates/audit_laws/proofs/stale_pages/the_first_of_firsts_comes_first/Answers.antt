use Rattle.audit_laws.specs.Firsts.{IsOneOf}
use Rattle.audit_laws.proofs.FirstLaws.{first-either}
use Rattle.audit_laws.proofs.stale_pages.the_first_of_firsts_comes_first.Goals as goal

pub returns : goal.returns
returns c are others_are first other = first-either (IsOneOf are) (IsOneOf others_are) first other
