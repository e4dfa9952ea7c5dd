use Rattle.history_laws.proofs.VerdictLaws.{findings_are_one}
use Rattle.history_laws.proofs.points.points_have_one_answer.Goals as goal

pub returns : goal.returns
returns c history pairs some other are others = findings_are_one history pairs some other are others
