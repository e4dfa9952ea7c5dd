use Rattle.std.proofs.Common.{◌≡◌, None, refl, subst}
use Rattle.paging_model.specs.Memory.{entry_at}
use Rattle.paging_model.specs.Walking.{entry_address}
use Rattle.phys_view.specs.Seen.{memory_of}
use Rattle.stale_audit.specs.Facts.{Facts}
use Rattle.stale_audit.proofs.SlotLaws.{unknown-slot}
use Rattle.stale_audit.proofs.slots.slot_findings.Goals as goal

pub returns-in-None-clause-slot : goal.returns-in-None-clause-slot
returns-in-None-clause-slot g c =
    unknown-slot c.args.point.now c.args.table.now c.args.range.level c.args.range.first (record { found = None; tables = c.new.result })
    c.requires.ready c.requires.timed c.requires.range.whole
    (subst (λ (f : Facts). None ≡ entry_at (memory_of f.seen) (entry_address c.args.range.level c.args.range.first c.args.table.now.frame)) c.point.view_is
    (rw c.entry_address-address.ensures.value at c.in-None.ensures.value)) refl c.new.ensures.items
