use Rattle.version_store.proofs.HistoryLaws.{kept_changes-tell}
use Rattle.version_store.proofs.laws.kept_changes_tell_values.Goals as goal

pub returns : goal.returns
returns c = kept_changes-tell
