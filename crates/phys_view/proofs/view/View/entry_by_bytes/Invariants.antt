use Rattle.std.proofs.Common.{◌≡◌, ℕ, ◌+◌, ◌<◌, length, Some}
use Rattle.std.specs.Prelude.{slice_index}
use Rattle.phys_view.specs.Seen.{memory_of}
use Rattle.phys_view.proofs.view.View.entry_by_bytes.Given as goal

-- the bytes so far are those of memory
abbrev pub invariant-loop-i : goal.invariant-loop-i
invariant-loop-i g l = record {
  long : length l.bytes ≡ 8;
  known : (k : ℕ) → k < l.i → memory_of l.self (l.at + k) ≡ Some (slice_index l.bytes k);
}
