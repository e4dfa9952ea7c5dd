use Rattle.history_laws.proofs.AnswerLaws.{answers_are_one}
use Rattle.history_laws.proofs.points.an_event_has_one_answer.Goals as goal

pub returns : goal.returns
returns c = answers_are_one
