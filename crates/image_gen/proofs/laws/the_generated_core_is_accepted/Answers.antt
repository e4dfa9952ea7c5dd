use Rattle.image_gen.proofs.CoreAccepted.{core-is-accepted}
use Rattle.image_gen.proofs.laws.the_generated_core_is_accepted.Goals as goal

pub returns : goal.returns
returns c = core-is-accepted
