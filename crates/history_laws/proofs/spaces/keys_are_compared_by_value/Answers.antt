use Rattle.history_laws.proofs.KeyLaws.{same_key-value}
use Rattle.history_laws.proofs.spaces.keys_are_compared_by_value.Goals as goal

pub returns : goal.returns
returns c one other = same_key-value one other
