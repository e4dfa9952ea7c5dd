use Rattle.std.proofs.Common.{None, refl}
use Rattle.stale_audit.specs.SlotEntries.{entries_at}
use Rattle.stale_audit.proofs.EntryLaws.{spans-order}
use Rattle.stale_audit.proofs.SlotLaws.{harmless-slot, slot-is}
use Rattle.stale_audit.proofs.slots.known_slot.Goals as goal

pub returns-then-is_harmless_slot-clause-slot : goal.returns-then-is_harmless_slot-clause-slot
returns-then-is_harmless_slot-clause-slot g c =
    harmless-slot c.args.point.now c.args.table.now c.args.range.level c.args.range.first c.args.address
    c.requires.ready c.requires.timed c.requires.range.whole c.requires.address (record { found = None; tables = c.new.result })
    (λ held t. c.is_harmless_slot.ensures c.if-is_harmless_slot.true c.args.address c.args.present held t c.requires.present c.in_ok-values.ensures)
    refl c.new.ensures.items

pub made_entries-requires-clause-order : goal.made_entries-requires-clause-order
made_entries-requires-clause-order g c = spans-order _ _ _ _ _ c.in_ok-values.ensures

pub made_entries-requires-2-clause-order : goal.made_entries-requires-2-clause-order
made_entries-requires-2-clause-order g c = spans-order _ _ _ _ _ c.in_ok-values.ensures

pub first_leaf-by_clear-requires-clause-until : goal.first_leaf-by_clear-requires-clause-until
first_leaf-by_clear-requires-clause-until g c = λ held t made.
    c.requires.ready.clear_until t (c.requires.timed.clear t ((c.in_ok-clear.ensures.made c.args.address c.args.present held t c.requires.present c.in_ok-values.ensures).0 made).in_times)

pub first_leaf-by_set-requires-clause-until : goal.first_leaf-by_set-requires-clause-until
first_leaf-by_set-requires-clause-until g c = λ held t made.
    c.requires.ready.set_until t (c.requires.timed.set t ((c.in_ok-set.ensures.made c.args.address c.args.present held t c.requires.present c.in_ok-values.ensures).0 made).in_times)

pub add_tables-requires-clause-until : goal.add_tables-requires-clause-until
add_tables-requires-clause-until g c = λ held t made.
    c.requires.ready.clear_until t (c.requires.timed.clear t ((c.in_ok-clear.ensures.made c.args.address c.args.present held t c.requires.present c.in_ok-values.ensures).0 made).in_times)

pub add_tables-requires-2-clause-until : goal.add_tables-requires-2-clause-until
add_tables-requires-2-clause-until g c = λ held t made.
    c.requires.ready.set_until t (c.requires.timed.set t ((c.in_ok-set.ensures.made c.args.address c.args.present held t c.requires.present c.in_ok-values.ensures).0 made).in_times)

pub returns-clause-slot : goal.returns-clause-slot
returns-clause-slot g c =
    slot-is c.args.point.now c.args.table.now c.args.range.level c.args.range.first c.args.address
    c.requires.ready c.requires.timed c.requires.range.whole c.requires.address
    (entries_at c.in_ok-clear.clear c.args.table.now.nxe_clear) (entries_at c.in_ok-set.set c.args.table.now.nxe_set)
    (λ held t. c.in_ok-clear.ensures.made c.args.address c.args.present held t c.requires.present c.in_ok-values.ensures)
    (λ held t. c.in_ok-set.ensures.made c.args.address c.args.present held t c.requires.present c.in_ok-values.ensures)
    c.first_leaf-by_clear.result c.first_leaf-by_set.result c.add_tables.new.tables.items
    (record { found = c.first_of_two-found.result; tables = c.add_tables-2.new.tables })
    c.first_leaf-by_clear.ensures c.first_leaf-by_set.ensures c.first_of_two-found.ensures
    (λ frame joined u. rw c.new-tables.ensures.items at (c.in_ok-add_tables.ensures.listed frame joined u))
    (λ frame joined u. c.in_ok-add_tables-2.ensures.listed frame joined u)
