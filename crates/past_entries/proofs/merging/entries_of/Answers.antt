use Rattle.std.proofs.Common.{ℕ, List, subst}
use Rattle.std.specs.Prelude.{◌↔◌}
use Rattle.std.proofs.lemmas.List.{take_all}
use Rattle.history_model.specs.CachedTranslations.{Held, held_of}
use Rattle.paging_model.specs.Entries.{entry_of}
use Rattle.past_entries.specs.PastEntries.{WasMade}
use Rattle.past_entries.specs.ValueSpans.{SpansMake}
use Rattle.past_entries.proofs.SpanLaws.{order-at, span-some, span-none}
use Rattle.past_entries.proofs.merging.entries_of.Goals as goal
use Rattle.past_entries.proofs.merging.entries_of.Goals.{in-Some+in_ok-add_part, in_default}

pub loop-first-preserved : goal.loop-first-preserved
loop-first-preserved c = record {
  made = elim c.match-fill_of.branch [
    | in-Some+in_ok-add_part w ↦ rw w.entries-is
        (span-some (λ value. held_of c.args.pages_are_global c.args.above (entry_of c.args.level c.args.settings.now value)) c.args.at.now
        (λ e t. WasMade c.loop-first.entries.items e t) (λ e t. WasMade w.add_part.new.entries.items e t) c.args.spans.now c.loop-first.first-index (0, 0, 0) c.loop-first-test.true c.loop-first.invariant.made
        w.in-Some.made w.in-Some.ensures.made w.in_ok-add_part.ensures.made)
    | in_default w ↦ rw w.entries-is
        (span-none (λ value. held_of c.args.pages_are_global c.args.above (entry_of c.args.level c.args.settings.now value)) c.args.at.now
        (λ e t. WasMade c.loop-first.entries.items e t) (λ e t. WasMade c.loop-first.entries.items e t) c.args.spans.now c.loop-first.first-index (0, 0, 0) c.loop-first-test.true c.loop-first.invariant.made
        w.in_default.ensures.made)
  ];
  fit = elim c.match-fill_of.branch [
    | in-Some+in_ok-add_part w ↦ rw w.entries-is (w.in_ok-add_part.ensures.fit c.args.level w.in-Some.ensures.fits c.loop-first.invariant.fit)
    | in_default w ↦ rw w.entries-is c.loop-first.invariant.fit
  ];
  order = (order-at c.args.spans.now c.loop-first.first-index (0, 0, 0) c.loop-first-test.true c.loop-first.invariant.order).1;
}

pub returns-clause-made : goal.returns-clause-made
returns-clause-made c = subst (λ (list : List (ℕ × ℕ × ℕ)). (e : Held) (t : ℕ) → WasMade c.loop-first.entries.items e t ↔ SpansMake (λ value. held_of c.args.pages_are_global c.args.above (entry_of c.args.level c.args.settings.now value)) c.args.at.now list e t)
    (take_all c.loop-first.first-index c.args.spans.now c.loop-first-test.false) c.loop-first.invariant.made
