use Rattle.std.proofs.Common.{arith}
use Rattle.std.proofs.lemmas.Map.Text.{text_keys}
use Rattle.outside.proofs.mem_shelf.MemShelfShelf.read_at.Goals as goal

pub returns-then-is_listed-clause-known : goal.returns-then-is_listed-clause-known
returns-then-is_listed-clause-known c = λ n. grind (arith, text_keys)

pub returns-then-is_listed-clause-others : goal.returns-then-is_listed-clause-others
returns-then-is_listed-clause-others c = λ n other. grind (arith, text_keys)

pub returns-then-is_listed-clause-count : goal.returns-then-is_listed-clause-count
returns-then-is_listed-clause-count c = λ n. grind (arith, text_keys)

pub returns-then-is_listed-clause-other_faults : goal.returns-then-is_listed-clause-other_faults
returns-then-is_listed-clause-other_faults c = λ n other held. grind (arith, text_keys)

pub returns-clause-known : goal.returns-clause-known
returns-clause-known c = λ n. grind (arith, text_keys)

pub returns-clause-others : goal.returns-clause-others
returns-clause-others c = λ n other. grind (arith, text_keys)

pub returns-clause-count : goal.returns-clause-count
returns-clause-count c = λ n. grind (arith, text_keys)

pub returns-clause-other_faults : goal.returns-clause-other_faults
returns-clause-other_faults c = λ n other held. grind (arith, text_keys)
