use Rattle.rights_report.specs.CoreRefusals.{core_refusal_line}
use Rattle.rights_report.specs.LogRefusals.{log_refusal_line}
use Rattle.rights.proofs.stopping.finish.Goals as goal

pub returns-in-Core-clause-puts : goal.returns-in-Core-clause-puts
returns-in-Core-clause-puts g c = rw c.in-Core.is (c.put_text.ensures.puts (core_refusal_line c.in-Core.fault) c.core_refusal.ensures.value)

pub returns-in-Line-clause-puts : goal.returns-in-Line-clause-puts
returns-in-Line-clause-puts g c =
    rw c.in-Line.is (c.put_text-in-Line.ensures.puts (log_refusal_line c.in-Line.number c.in-Line.cause) c.log_refusal.ensures.value)
