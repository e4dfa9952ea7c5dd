use Rattle.cache_rules.proofs.StandingLaws.{noted-stands}
use Rattle.cache_rules.proofs.laws.noted_stands.Goals as goal

pub returns : goal.returns
returns c old new history happened after stands noted is_known same = noted-stands old new history happened after stands noted is_known same
