use Rattle.history_laws.proofs.QuietLaws.{visited_quiet, quiet_pcid}
use Rattle.history_laws.proofs.points.quiet_processors_stay_in_a_pcid.Goals as goal

pub returns-clause-one_is_visited : goal.returns-clause-one_is_visited
returns-clause-one_is_visited c history p known quiet is_known = visited_quiet history p known quiet is_known

pub returns-clause-holds : goal.returns-clause-holds
returns-clause-holds c history p pcid level x held known quiet is_known may_hold = quiet_pcid known quiet is_known may_hold
