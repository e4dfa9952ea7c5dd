use Rattle.std.proofs.Common.{◌≤◌, take}
use Rattle.rights_report.specs.AnswerLines.{answer_lines}
use Rattle.rights.specs.Ends.{Adds}
use Rattle.rights.proofs.answering.put_answer.Given as goal

abbrev pub invariant-loop-index : goal.invariant-loop-index
invariant-loop-index g l = record {
  puts : Adds (g.K.Sink.pieces l.fn.out) (g.K.Sink.pieces l.out) (take l.index (answer_lines l.answer));
  count : g.K.Sink.faults l.fn.out ≤ g.K.Sink.faults l.out;
}
