-- Each list computes.
use Rattle.std.proofs.Common.{refl}
use Rattle.history_model.proofs.worked_kept_spaces.listed_spaces.Goals as goal

pub returns : goal.returns
returns c = record { listed_again = refl; other_settings = refl; sixteenth = refl; seventeenth = refl }
