use Rattle.version_store.proofs.ChangeLaws.{entries-read}
use Rattle.version_store.proofs.laws.entries_are_read_one_by_one.Goals as goal

pub returns : goal.returns
returns c = entries-read
