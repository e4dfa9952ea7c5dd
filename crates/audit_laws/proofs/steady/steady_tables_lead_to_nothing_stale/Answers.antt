use Rattle.audit_laws.specs.Leads.{IsTimeOf}
use Rattle.audit_laws.proofs.SteadyLaws.{steady_leads, present_not_stale, mapped_where_reached}
use Rattle.audit_laws.proofs.steady.steady_tables_lead_to_nothing_stale.Goals as goal

pub returns-clause-stale : goal.returns-clause-stale
returns-clause-stale c history p pcid settings known root x in_use level table bits k held same settings_are steady aligned mapped leads exceeds =
    present_not_stale history settings known root level x table bits k held settings_are aligned mapped
    (steady_leads history p pcid settings x same (IsTimeOf in_use) level table bits k held steady leads) exceeds

pub returns-clause-reached : goal.returns-clause-reached
returns-clause-reached c memory settings root level x table bits reached = mapped_where_reached memory settings root level x table bits reached
