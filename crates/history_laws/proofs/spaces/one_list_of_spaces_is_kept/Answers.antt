use Rattle.history_laws.proofs.KeptLaws.{kept_list, kept_one}
use Rattle.history_laws.proofs.spaces.one_list_of_spaces_is_kept.Goals as goal

pub returns-clause-one_list : goal.returns-clause-one_list
returns-clause-one_list c history some other are others = kept_one history some other are others

pub returns-clause-few : goal.returns-clause-few
returns-clause-few c history keys are = let list = kept_list history keys are in list.few

pub returns-clause-distinct : goal.returns-clause-distinct
returns-clause-distinct c history keys are = let list = kept_list history keys are in list.distinct

pub returns-clause-within : goal.returns-clause-within
returns-clause-within c history keys key are is_in = let list = kept_list history keys are in list.within key is_in
