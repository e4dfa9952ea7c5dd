use Rattle.std.proofs.Common.{◌⊎◌, sym, subst}
use Rattle.std.specs.Prelude.{◌↔◌}
use Rattle.past_entries.specs.Fills.{FitsLevel}
use Rattle.past_entries.specs.declared.entries.PastEntry.{PastEntry}
use Rattle.stale_audit.specs.Findings.{IsListedAt}
use Rattle.stale_audit.specs.SlotEntries.{IsReferenceOf}
use Rattle.stale_audit.proofs.EntryLaws.{fits-at, until-at}
use Rattle.stale_audit.proofs.ReferenceLaws.{references-more}
use Rattle.stale_audit.proofs.tables.add_tables_of.Goals as goal

pub add_table-requires-clause-fits : goal.add_table-requires-clause-fits
add_table-requires-clause-fits g c = subst (λ (one : PastEntry). FitsLevel c.args.level one.fill) (sym c.entry-item.is)
    (fits-at c.args.level c.args.entries.now c.loop-entry.entry-index c.entry-item.result c.loop-entry-test.true c.requires.fit)

pub add_table-requires-clause-until : goal.add_table-requires-clause-until
add_table-requires-clause-until g c =
    until-at c.args.entries.now c.loop-entry.entry-index c.entry-item.result c.args.point.now.end c.loop-entry-test.true c.entry-item.is c.requires.until

pub loop-entry-preserved : goal.loop-entry-preserved
loop-entry-preserved g c = record {
  listed = λ frame joined u.
      references-more c.args.point.now c.args.level c.args.first c.args.entries.now c.loop-entry.entry-index c.entry-item.result
      c.args.tables.now.items c.loop-entry.tables.items c.add_table.new.tables.items frame joined u c.loop-entry-test.true
      (c.loop-entry.invariant.listed frame joined u)
      (subst (λ (one : PastEntry). IsListedAt c.add_table.new.tables.items frame joined u
      ↔ (IsListedAt c.loop-entry.tables.items frame joined u ⊎ IsReferenceOf c.args.point.now c.args.level c.args.first one frame joined u))
      c.entry-item.is (c.in_ok-add_table.ensures.listed frame joined u));
  below = λ old. c.in_ok-add_table.ensures.below (c.loop-entry.invariant.below old);
}
