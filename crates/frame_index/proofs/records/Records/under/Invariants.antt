use Rattle.std.proofs.Common.{◌≤◌}
use Rattle.frame_index.proofs.Tables.{FoundDown}
use Rattle.frame_index.proofs.records.Records.under.Given as goal

abbrev pub invariant-loop-next : goal.invariant-loop-next
invariant-loop-next l = record {
  within : l.next ≤ l.level;
  found : FoundDown l.self.slab.slots l.first l.last l.level l.next l.tables.items;
}

abbrev pub decreases-loop-next : goal.decreases-loop-next
decreases-loop-next l = l.next
