use Rattle.history_laws.proofs.PrefixLaws.{held-same}
use Rattle.history_laws.proofs.translations.one_entry_serves_its_range.Goals as goal

pub returns : goal.returns
returns c history p pcid level x y held same may_hold = held-same same may_hold
