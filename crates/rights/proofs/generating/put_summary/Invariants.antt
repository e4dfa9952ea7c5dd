use Rattle.std.proofs.Common.{◌≤◌, take}
use Rattle.rights_report.specs.SummaryLines.{summary_lines}
use Rattle.rights.specs.Ends.{Adds}
use Rattle.rights.proofs.generating.put_summary.Given as goal

abbrev pub invariant-loop-index : goal.invariant-loop-index
invariant-loop-index g l = record {
  puts : Adds (g.K.Sink.pieces l.fn.out) (g.K.Sink.pieces l.out) (take l.index (summary_lines l.summary));
  count : g.K.Sink.faults l.fn.out ≤ g.K.Sink.faults l.out;
}
