use Rattle.history_laws.proofs.CostLaws.{audit_reach, build_reach, event_reach, list_reach, update_reach}
use Rattle.history_laws.proofs.bounds.bounds_reach_the_counts.Goals as goal

pub returns-clause-build : goal.returns-clause-build
returns-clause-build c history key cost steps counted = build_reach history key cost steps counted

pub returns-clause-list : goal.returns-clause-list
returns-clause-list c history keys key cost steps counted = list_reach history keys key cost steps counted

pub returns-clause-update : goal.returns-clause-update
returns-clause-update c memory key at n cost steps counted = update_reach memory key at n cost steps counted

pub returns-clause-audit : goal.returns-clause-audit
returns-clause-audit c history cpu cost steps counted = audit_reach history cpu cost steps counted

pub returns-clause-event : goal.returns-clause-event
returns-clause-event c history happened cost steps counted = event_reach history happened cost steps counted
