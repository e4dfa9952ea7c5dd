use Rattle.std.proofs.Common.{subst}
use Rattle.paging_model.specs.Entries.{entry_of}
use Rattle.paging_model.specs.Registers.{pge}
use Rattle.history_model.specs.CachedTranslations.{held_of}
use Rattle.past_entries.specs.ValueSpans.{SpansMake}
use Rattle.stale_audit.specs.Facts.{settings_with}
use Rattle.stale_audit.specs.SlotEntries.{AllHarmless, spans_of}
use Rattle.stale_audit.specs.declared.slot_values.SlotValues.{SlotValues}
use Rattle.stale_audit.proofs.EntryLaws.{no-times-make, spans-harmless}
use Rattle.stale_audit.proofs.harmless_values.are_harmless.Goals as goal

pub returns-then-is_empty : goal.returns-then-is_empty
returns-then-is_empty g c = λ is held t made. absurd (no-times-make
    (λ value. held_of (pge c.args.point.now.host.regs) c.args.above (entry_of c.args.range.level (settings_with c.args.nxe c.args.point.now.settings) value))
    c.args.times.now held t (spans_of c.args.values.now c.args.point.now.host.horizon c.args.point.now.end)
    (c.is_empty.ensures.0 c.if-is_empty.true) made)

pub returns-in-Past : goal.returns-in-Past
returns-in-Past g c = λ is held t made.
    let past : SpansMake (λ value. held_of (pge c.args.point.now.host.regs) c.args.above (entry_of c.args.range.level (settings_with c.args.nxe c.args.point.now.settings) value))
    c.args.times.now c.as_slice.result.now held t =
    rw c.as_slice.ensures (subst (λ (v : SlotValues). SpansMake (λ value. held_of (pge c.args.point.now.host.regs) c.args.above (entry_of c.args.range.level (settings_with c.args.nxe c.args.point.now.settings) value))
    c.args.times.now (spans_of v c.args.point.now.host.horizon c.args.point.now.end) held t) c.in-Past.is made) in
    let all : AllHarmless c.args.point.now c.args.range.level c.args.range.first
    (λ value. held_of (pge c.args.point.now.host.regs) c.args.above (entry_of c.args.range.level (settings_with c.args.nxe c.args.point.now.settings) value)) c.as_slice.result.now =
    rw c.settings_with-settings.ensures at (c.all_harmless.ensures is) in
    spans-harmless c.args.point.now c.args.range.level c.args.range.first
    (λ value. held_of (pge c.args.point.now.host.regs) c.args.above (entry_of c.args.range.level (settings_with c.args.nxe c.args.point.now.settings) value))
    c.args.times.now held t c.as_slice.result.now all past
