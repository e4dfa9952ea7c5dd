use Rattle.std.proofs.Common.{◌≡◌, ◌≢◌, ℕ, ◌-◌, ◌≤◌, List, vec_len}
use Rattle.outside.specs.Shelf.{has_bytes}
use Rattle.outside.specs.Whole.{IsBytePrefix}
use Rattle.outside.proofs.reading.read_all.Given as goal

abbrev pub invariant-loop-bytes : goal.invariant-loop-bytes
invariant-loop-bytes g l = record {
  piece : vec_len l.piece ≡ l.len;
  bound : vec_len l.bytes ≤ l.limit;
  prefix : (content : List ℕ) → g.S.Shelf.known l.fn.shelf l.name ≡ has_bytes content → IsBytePrefix content l.bytes.items;
  known : (n : List ℕ) → g.S.Shelf.known l.shelf n ≡ g.S.Shelf.known l.fn.shelf n;
  others : (n : List ℕ) → n ≢ l.name → g.S.Shelf.reach l.shelf n ≡ g.S.Shelf.reach l.fn.shelf n;
  count : (n : List ℕ) → g.S.Shelf.faults l.fn.shelf n ≤ g.S.Shelf.faults l.shelf n;
}

abbrev pub decreases-loop-bytes : goal.decreases-loop-bytes
decreases-loop-bytes g l = l.limit - vec_len l.bytes
