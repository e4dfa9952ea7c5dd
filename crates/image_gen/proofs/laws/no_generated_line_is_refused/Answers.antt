use Rattle.image_gen.proofs.NoRefusals.{none-refused}
use Rattle.image_gen.proofs.laws.no_generated_line_is_refused.Goals as goal

pub returns : goal.returns
returns c seed count = none-refused seed count
