use Rattle.rights.proofs.LinesInTurn.{line-by-line}
use Rattle.rights.proofs.laws.a_log_is_answered_line_by_line.Goals as goal

pub returns : goal.returns
returns c = line-by-line
