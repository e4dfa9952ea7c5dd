use Rattle.history_laws.proofs.EventLaws.{others_leave}
use Rattle.history_laws.proofs.translations.others_take_nothing.Goals as goal

pub returns : goal.returns
returns c before happened p pcid level x held other may_hold = others_leave before happened p pcid level x held other may_hold
