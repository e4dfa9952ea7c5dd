use Rattle.std.proofs.Common.{arith}
use Rattle.std.proofs.lemmas.Map.Text.{text_keys}
use Rattle.outside.proofs.mem_shelf.MemShelf.add.Goals as goal

pub returns-in-Some-clause-faults : goal.returns-in-Some-clause-faults
returns-in-Some-clause-faults c = λ n. grind (arith, text_keys)

pub returns-in-Some-clause-others : goal.returns-in-Some-clause-others
returns-in-Some-clause-others c = λ n ne. record {
  known = grind (arith, text_keys);
  reach = grind (arith, text_keys);
  faults = grind (arith, text_keys);
}

pub returns-clause-faults : goal.returns-clause-faults
returns-clause-faults c = λ n. grind (arith, text_keys)

pub returns-clause-others : goal.returns-clause-others
returns-clause-others c = λ n ne. record {
  known = grind (arith, text_keys);
  reach = grind (arith, text_keys);
  faults = grind (arith, text_keys);
}
