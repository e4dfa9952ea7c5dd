use Rattle.cache_rules.proofs.StartLaws.{other-stands}
use Rattle.cache_rules.proofs.laws.another_start.Goals as goal

pub returns : goal.returns
returns c host start other stands is_known same = other-stands host start other stands is_known same
