use Rattle.std.proofs.Common.{take}
use Rattle.history_reference.proofs.Usable.{AreUsable}
use Rattle.history_reference.specs.Moments.{history_of}
use Rattle.history_reference.proofs.stale_pages.usable_translations.Given as goal

-- those held under the PCID, and global ones under the PCIDs so far
abbrev pub invariant-loop-under : goal.invariant-loop-under
invariant-loop-under l =
    AreUsable (history_of l.moment) l.cpu l.pcid l.page (take l.under-index l.under-items) l.list.items
