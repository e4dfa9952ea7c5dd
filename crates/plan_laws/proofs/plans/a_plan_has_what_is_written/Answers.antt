use Rattle.plan_laws.proofs.WholePlans.{planned-are}
use Rattle.plan_laws.proofs.plans.a_plan_has_what_is_written.Goals as goal

pub returns : goal.returns
returns c memory settings root patches frame first last tables order short whole root_whole all plan =
    planned-are memory settings root patches frame first last tables order short whole root_whole all plan
