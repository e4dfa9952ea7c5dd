use Rattle.history_laws.proofs.MakingLaws.{since_held, held_since}
use Rattle.history_laws.proofs.translations.held_is_made_and_spared.Goals as goal

pub returns : goal.returns
returns c history p pcid level x held = (since_held, held_since)
