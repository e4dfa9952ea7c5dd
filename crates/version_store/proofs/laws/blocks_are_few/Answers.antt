use Rattle.version_store.proofs.BlockCounts.{blocks-few}
use Rattle.version_store.proofs.laws.blocks_are_few.Goals as goal

pub returns : goal.returns
returns c = blocks-few
