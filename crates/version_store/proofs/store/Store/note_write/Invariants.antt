use Rattle.std.proofs.Common.{◌≡◌, ◌+◌, ◌*◌, drop}
use Rattle.version_store.specs.Changes.{kept_blocks, with_changes}
use Rattle.version_store.proofs.store.Store.note_write.Given as goal

abbrev pub invariant-loop-i : goal.invariant-loop-i
invariant-loop-i l = record {
  noted : with_changes l.self (l.first + 8 * l.i) (drop l.i l.olds) l.time ≡ with_changes l.fn.self l.first l.olds l.time;
  counts : l.pool.live + kept_blocks l.fn.self ≡ l.fn.pool.live + kept_blocks l.self;
}
