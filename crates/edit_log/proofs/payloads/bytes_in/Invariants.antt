use Rattle.std.proofs.Common.{◌≡◌, ◌≤◌, ◌++◌, ◌*◌, drop, length}
use Rattle.std.specs.Prelude.{option_map, vec_capacity}
use Rattle.edit_log.specs.LogLine.{bytes_of}
use Rattle.edit_log.proofs.payloads.bytes_in.Given as goal

abbrev pub invariant-loop-i : goal.invariant-loop-i
invariant-loop-i l = record {
  same : bytes_of l.word ≡ option_map (λ more. l.bytes.items ++ more) (bytes_of (drop (2 * l.i) l.word));
  count : length l.bytes.items ≡ l.i;
  room : l.count ≤ vec_capacity l.bytes;
}
