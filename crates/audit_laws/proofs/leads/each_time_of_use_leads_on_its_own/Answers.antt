use Rattle.audit_laws.specs.Leads.{IsTimeOf}
use Rattle.audit_laws.proofs.LeadLaws.{leads-more, leads-once}
use Rattle.audit_laws.proofs.leads.each_time_of_use_leads_on_its_own.Goals as goal

pub returns-clause-more : goal.returns-clause-more
returns-clause-more c makes takes now x some other level table bits k held more leads =
    leads-more makes takes now x (IsTimeOf some) (IsTimeOf other) level table bits k held more leads

pub returns-clause-once : goal.returns-clause-once
returns-clause-once c makes takes now x in_use level table bits k held leads =
    leads-once makes takes now x (IsTimeOf in_use) level table bits k held leads
