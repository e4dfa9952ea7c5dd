use Rattle.std.proofs.Common.{List, sym, subst}
use Rattle.std.proofs.lemmas.List.{take_all}
use Rattle.audit_laws.specs.Firsts.{IsFirst}
use Rattle.past_entries.specs.Fills.{FitsLevel}
use Rattle.past_entries.specs.declared.entries.PastEntry.{PastEntry}
use Rattle.stale_audit.specs.SlotEntries.{IsLeafOf, IsLeafOfSome}
use Rattle.stale_audit.proofs.EntryLaws.{fits-at, until-at}
use Rattle.stale_audit.proofs.LeafLaws.{leaf-more}
use Rattle.stale_audit.proofs.leaves.first_of_entries.Goals as goal

pub leaf_of-found-requires-clause-fits : goal.leaf_of-found-requires-clause-fits
leaf_of-found-requires-clause-fits g c = subst (λ (one : PastEntry). FitsLevel c.args.range.level one.fill) (sym c.entry-item.is)
    (fits-at c.args.range.level c.args.entries.now c.loop-entry.entry-index c.entry-item.result c.loop-entry-test.true c.requires.fit)

pub leaf_of-found-requires-clause-until : goal.leaf_of-found-requires-clause-until
leaf_of-found-requires-clause-until g c =
    until-at c.args.entries.now c.loop-entry.entry-index c.entry-item.result c.args.point.now.end c.loop-entry-test.true c.entry-item.is c.requires.until

pub loop-entry-preserved : goal.loop-entry-preserved
loop-entry-preserved g c = record {
  first = rw c.first_of_two-first.ensures
      (leaf-more c.args.point.now c.args.range.level c.args.range.first c.args.entries.now c.loop-entry.entry-index c.entry-item.result
      c.loop-entry.first c.leaf_of-found.result c.loop-entry-test.true c.loop-entry.invariant.first
      (subst (λ (one : PastEntry). IsFirst (IsLeafOf c.args.point.now c.args.range.level c.args.range.first one) c.leaf_of-found.result) c.entry-item.is c.leaf_of-found.ensures));
}

pub returns : goal.returns
returns g c = subst (λ (list : List PastEntry). IsFirst (IsLeafOfSome c.args.point.now c.args.range.level c.args.range.first list) c.loop-entry.first)
    (take_all c.loop-entry.entry-index c.args.entries.now c.loop-entry-test.false) c.loop-entry.invariant.first
