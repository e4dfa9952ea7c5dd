use Rattle.history_laws.proofs.PcidLaws.{held_under_visited, global_serves_all, own_serves_one}
use Rattle.history_laws.proofs.translations.global_translations_serve_each_pcid.Goals as goal

pub returns-clause-held_under_visited : goal.returns-clause-held_under_visited
returns-clause-held_under_visited c history p pcid level x held may_hold = held_under_visited may_hold

pub returns-clause-global_everywhere : goal.returns-clause-global_everywhere
returns-clause-global_everywhere c history p pcid other level page held global may_use = global_serves_all history p pcid other page level held global may_use

pub returns-clause-others_under_their_own : goal.returns-clause-others_under_their_own
returns-clause-others_under_their_own c history p pcid level page held own may_use = own_serves_one history p pcid page level held own may_use
