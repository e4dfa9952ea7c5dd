use Rattle.rights.proofs.GeneratedLogs.{no-memory, summary-ends, summary-fails}
use Rattle.rights.proofs.generating.generate.Goals as goal

pub returns-in-Err-clause-ends : goal.returns-in-Err-clause-ends
returns-in-Err-clause-ends g c = no-memory c.args.seed c.args.count (g.K.Sink.pieces c.args.out.now)

pub returns-in-Ok-put_summary-clause-ends : goal.returns-in-Ok-put_summary-clause-ends
returns-in-Ok-put_summary-clause-ends g c =
    summary-ends c.args.seed c.args.count c.in-Ok.summary c.in-Ok.ensures.ok (g.K.Sink.pieces c.args.out.now) (g.K.Sink.pieces c.put_summary.new.out) c.end.result
    c.in-Ok-put_summary.ensures.puts c.end.ensures

pub returns-in-Err-put_summary-clause-ends : goal.returns-in-Err-put_summary-clause-ends
returns-in-Err-put_summary-clause-ends g c =
    summary-fails c.args.seed c.args.count c.in-Ok.summary c.in-Ok.ensures.ok (g.K.Sink.pieces c.args.out.now) (g.K.Sink.pieces c.put_summary.new.out)
    (rw c.in-Err-put_summary.ensures.put at c.in-Err-put_summary.ensures.puts)
