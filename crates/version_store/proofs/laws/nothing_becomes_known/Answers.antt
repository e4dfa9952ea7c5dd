use Rattle.version_store.proofs.HistoryLaws.{unknown-past, unknown-future}
use Rattle.version_store.proofs.laws.nothing_becomes_known.Goals as goal

pub returns-clause-past : goal.returns-clause-past
returns-clause-past c = unknown-past

pub returns-clause-future : goal.returns-clause-future
returns-clause-future c = unknown-future
