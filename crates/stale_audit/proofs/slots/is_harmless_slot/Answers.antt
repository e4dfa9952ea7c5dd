use Rattle.stale_audit.specs.SlotEntries.{spans_of}
use Rattle.stale_audit.proofs.EntryLaws.{slot-harmless}
use Rattle.stale_audit.proofs.slots.is_harmless_slot.Goals as goal

pub returns-then-are_harmless : goal.returns-then-are_harmless
returns-then-are_harmless g c = λ is address present held t is_present are made.
    slot-harmless c.args.point.now c.args.table.now c.args.range.level c.args.range.first address present c.args.table.now.bits
    c.requires.ready c.requires.timed is_present (spans_of c.args.values.now c.args.point.now.host.horizon c.args.point.now.end) are
    (c.are_harmless.ensures c.if-are_harmless.true) (c.are_harmless-then-are_harmless.ensures is) held t made
