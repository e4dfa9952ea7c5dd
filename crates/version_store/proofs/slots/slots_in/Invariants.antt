use Rattle.std.proofs.Common.{◌≡◌, ◌%◌}
use Rattle.std.specs.List.{filter}
use Rattle.version_store.specs.Changes.{is_changed, slots_from}
use Rattle.version_store.proofs.slots.slots_in.Given as goal

abbrev pub invariant-loop-i : goal.invariant-loop-i
invariant-loop-i l =
    l.items.items ≡ filter (λ slot. is_changed l.changes (slot % 4096)) (slots_from l.frame l.i)
