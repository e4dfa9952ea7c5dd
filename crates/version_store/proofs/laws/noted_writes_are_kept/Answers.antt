use Rattle.std.proofs.Common.{◌+◌, length, ap}
use Rattle.history_model.specs.History.{memory, time}
use Rattle.version_store.specs.Changes.{KeptChanges, with_changes}
use Rattle.version_store.specs.WrittenChanges.{first_slot, touched_entries}
use Rattle.version_store.proofs.laws.noted_writes_are_kept.Goals as goal

pub returns : goal.returns
returns c before at bytes kept is =
    ap (λ (earlier : KeptChanges). with_changes earlier (first_slot at) (touched_entries (memory before) at (length bytes)) (time before + 1)) is
