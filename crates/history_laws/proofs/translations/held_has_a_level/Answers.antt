use Rattle.history_laws.proofs.LevelLaws.{held_has_level, held_below_top}
use Rattle.history_laws.proofs.translations.held_has_a_level.Goals as goal

pub returns-clause-has_level : goal.returns-clause-has_level
returns-clause-has_level c history p pcid level x held may_hold = held_has_level may_hold

pub returns-clause-below_the_top : goal.returns-clause-below_the_top
returns-clause-below_the_top c history p pcid level x held five_levels same may_hold = held_below_top five_levels same may_hold
