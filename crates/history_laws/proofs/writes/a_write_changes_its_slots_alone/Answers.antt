use Rattle.history_laws.proofs.WriteLaws.{entry_at-unwritten}
use Rattle.history_laws.proofs.writes.a_write_changes_its_slots_alone.Goals as goal

pub returns : goal.returns
returns c before at bytes slot aligned unwritten = entry_at-unwritten at bytes before slot aligned unwritten
