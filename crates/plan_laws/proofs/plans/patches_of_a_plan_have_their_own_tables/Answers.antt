use Rattle.plan_laws.proofs.OwnTables.{own-tables, listed-tables}
use Rattle.plan_laws.proofs.plans.patches_of_a_plan_have_their_own_tables.Goals as goal

pub returns-clause-own : goal.returns-clause-own
returns-clause-own c memory settings root patches frame first last tables all plan one other is_in is_in' level prefix =
    own-tables memory settings root patches frame first last tables all plan one other is_in is_in' level prefix

pub returns-clause-listed : goal.returns-clause-listed
returns-clause-listed c settings patches frame first last tables plan patch is_in less =
    listed-tables settings patches frame first last tables plan patch is_in less
