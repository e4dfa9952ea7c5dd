use Rattle.std.proofs.Common.{ℕ, take, drop}
use Rattle.std.specs.Prelude.{◌↔◌}
use Rattle.history_model.specs.CachedTranslations.{Held, held_of}
use Rattle.paging_model.specs.Entries.{entry_of}
use Rattle.past_entries.specs.PastEntries.{AllFitLevel, WasMade}
use Rattle.past_entries.specs.ValueSpans.{SpansMake, AreInOrder}
use Rattle.past_entries.proofs.merging.entries_of.Given as goal

abbrev pub invariant-loop-first : goal.invariant-loop-first
invariant-loop-first l = record {
  made : (e : Held) (t : ℕ) → WasMade l.entries.items e t ↔ SpansMake (λ value. held_of l.pages_are_global l.above (entry_of l.level l.settings value)) l.at (take l.first-index l.spans) e t;
  fit : AllFitLevel l.level l.entries.items;
  order : AreInOrder (drop l.first-index l.spans);
}
