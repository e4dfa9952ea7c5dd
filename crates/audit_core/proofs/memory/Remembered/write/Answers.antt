use Rattle.std.proofs.Common.{sym}
use Rattle.audit_core.proofs.Writing.{keeps_write}
use Rattle.audit_core.proofs.memory.Remembered.write.Goals as goal
use Rattle.audit_core.proofs.memory.Remembered.write.Goals.{in-Ok, in-Err-note_write}

pub returns-clause-ok : goal.returns-clause-ok
returns-clause-ok g c = elim c.match-note_write.branch [
  | in-Ok w ↦
      rw (w.result-is, sym c.self.view_is)
      (keeps_write _ _ _ _ c.args.now c.args.at c.args.bytes.now c.read.new.self c.in_default.ensures.ok c.read.ensures.value
      c.read.ensures.all (rw c.as_slice-olds.ensures at w.in-Ok.ensures.ok))
  | in-Err-note_write w ↦ rw w.result-is tt
]
