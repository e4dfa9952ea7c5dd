use Rattle.std.proofs.Common.{◌+◌, None, subst}
use Rattle.std.specs.Prelude.{◌↔◌}
use Rattle.paging_model.specs.Entries.{entry_of}
use Rattle.paging_model.specs.Registers.{pge}
use Rattle.history_model.specs.CachedTranslations.{held_of}
use Rattle.past_entries.specs.PastEntries.{WasMade}
use Rattle.past_entries.specs.ValueSpans.{AreInOrder, SpansMake}
use Rattle.version_store.specs.Changes.{value_at}
use Rattle.version_store.specs.Spanning.{AreSpans}
use Rattle.stale_audit.specs.Facts.{settings_with}
use Rattle.stale_audit.specs.SlotEntries.{spans_of}
use Rattle.stale_audit.specs.declared.slot_values.SlotValues.{SlotValues}
use Rattle.stale_audit.proofs.EntryLaws.{spans-make}
use Rattle.stale_audit.proofs.made_entries.made_entries.Goals as goal

pub entries_of-requires-clause-order : goal.entries_of-requires-clause-order
entries_of-requires-clause-order g c = rw c.as_slice.ensures
    (subst (λ (v : SlotValues). AreInOrder (spans_of v c.args.point.now.host.horizon c.args.point.now.end)) c.in-Past.is c.requires.order)

pub returns-in_ok-entries-in-Past-clause-made : goal.returns-in_ok-entries-in-Past-clause-made
returns-in_ok-entries-in-Past-clause-made g c = λ address present held t is_present are.
    let spans : AreSpans (value_at c.args.point.now.kept address present) None c.args.point.now.host.horizon (c.args.point.now.end + 1) c.as_slice.result.now =
    rw c.as_slice.ensures (subst (λ (v : SlotValues). AreSpans (value_at c.args.point.now.kept address present) None c.args.point.now.host.horizon (c.args.point.now.end + 1)
    (spans_of v c.args.point.now.host.horizon c.args.point.now.end)) c.in-Past.is are) in
    let made : WasMade c.in_ok-entries-in-Past.entries.items held t
    ↔ SpansMake (λ value. held_of (pge c.args.point.now.host.regs) c.args.above (entry_of c.args.level (settings_with c.args.nxe c.args.point.now.settings) value)) c.args.times.now c.as_slice.result.now held t =
    rw (c.settings_with-settings.ensures, c.pages_are_global-global.ensures) at (c.in_ok-entries-in-Past.ensures.made held t) in
    let is = spans-make c.args.point.now c.args.nxe c.args.times.now c.args.level address present c.args.above is_present c.requires.since c.requires.until c.as_slice.result.now held t spans in
    ((λ m. is.0 (made.0 m)), (λ m. made.1 (is.1 m)))
