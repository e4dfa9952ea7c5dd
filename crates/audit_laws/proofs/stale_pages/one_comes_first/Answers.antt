use Rattle.audit_laws.specs.Firsts.{IsOneOf}
use Rattle.audit_laws.proofs.FirstLaws.{first-one}
use Rattle.audit_laws.proofs.stale_pages.one_comes_first.Goals as goal

pub returns : goal.returns
returns c are first other = first-one (IsOneOf are) first other
