use Rattle.audit_laws.specs.Leads.{IsTimeOf}
use Rattle.audit_laws.proofs.LeadLaws.{leads-same, made-alike_back, taken-alike_back, named-alike}
use Rattle.audit_laws.proofs.leads.alike_makings_lead_to_the_same.Goals as goal

pub returns : goal.returns
returns c some other takes other_takes now x in_use level table bits k held made taken named aligned = (
  leads-same some other takes other_takes now made taken named x (IsTimeOf in_use) (IsTimeOf in_use) level table bits k held aligned (λ t used. used),
  leads-same other some other_takes takes now (made-alike_back some other made) (taken-alike_back takes other_takes taken) (named-alike some other made named)
      x (IsTimeOf in_use) (IsTimeOf in_use) level table bits k held aligned (λ t used. used),
)
