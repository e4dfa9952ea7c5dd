use Rattle.std.proofs.Common.{take}
use Rattle.std.specs.Prelude.{option_map}
use Rattle.history_reference.proofs.Usable.{AreFoundOf}
use Rattle.paging_reference.specs.PageTargets.{target_of}
use Rattle.history_reference.proofs.stale_pages.found_among.Given as goal

-- what is found of the translations so far
abbrev pub invariant-loop-entry : goal.invariant-loop-entry
invariant-loop-entry l =
    AreFoundOf (option_map target_of l.there) l.known l.cpu l.pcid l.page (take l.entry-index l.usable) l.list.items
