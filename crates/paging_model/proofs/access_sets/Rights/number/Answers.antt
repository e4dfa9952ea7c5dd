use Rattle.std.proofs.Common.{sym, arith}
use Rattle.paging_model.proofs.SetBits.{set_number-has, same_number}
use Rattle.paging_model.proofs.access_sets.Rights.number.Goals as goal

pub returns-clause-sum : goal.returns-clause-sum
returns-clause-sum c = rw (sym c.self.view_is) (sym (set_number-has c.self.inside.number (omega arith)))

pub returns-clause-only : goal.returns-clause-only
returns-clause-only c other below same = same_number other c.self.inside.number below (omega arith) (rw (sym c.self.view_is) at same)
