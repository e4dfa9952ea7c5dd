use Rattle.std.proofs.Common.{◌≤◌, drop, None}
use Rattle.version_store.specs.Changes.{value_in}
use Rattle.version_store.specs.Spanning.{AreSpans}
use Rattle.version_store.proofs.Growing.{IsPassed}
use Rattle.version_store.proofs.spans.spans_in.Given as goal

abbrev pub invariant-loop-number : goal.invariant-loop-number
invariant-loop-number l = record {
  order : l.first ≤ l.now;
  passed : IsPassed l.changes (drop l.number l.changes) l.offset l.first;
  spans : AreSpans (value_in l.changes l.offset l.present) None l.from l.first l.items.items;
}
