use Rattle.audit_laws.specs.Leads.{IsTimeOf}
use Rattle.audit_laws.proofs.SteadyLaws.{steady_leads}
use Rattle.audit_laws.proofs.steady.steady_tables_lead_to_present_pages.Goals as goal

pub returns : goal.returns
returns c history p pcid settings x in_use level table bits k held same steady leads =
    steady_leads history p pcid settings x same (IsTimeOf in_use) level table bits k held steady leads
