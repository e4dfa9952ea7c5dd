use Rattle.history_laws.proofs.WriteLaws.{untouched_as_before}
use Rattle.history_laws.proofs.spaces.untouched_uses_stood_before.Goals as goal

pub returns : goal.returns
returns c before at bytes key table aligned = untouched_as_before before at bytes key table aligned
