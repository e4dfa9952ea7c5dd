use Rattle.history_laws.proofs.WriteLaws.{walk_past, walk_past-after}
use Rattle.history_laws.proofs.writes.walks_past_a_write_are_as_before.Goals as goal

pub returns-clause-before : goal.returns-clause-before
returns-clause-before c before at bytes settings root x aligned none = walk_past before at bytes settings root x aligned none

pub returns-clause-after : goal.returns-clause-after
returns-clause-after c before at bytes settings root x aligned none = walk_past-after before at bytes settings root x aligned none
