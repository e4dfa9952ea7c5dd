use Rattle.std.proofs.Common.{◌≡◌, ◌++◌, take}
use Rattle.image_gen.specs.LineTexts.{byte_pairs}
use Rattle.image_gen.proofs.texts.add_pairs.Given as goal

abbrev pub invariant-loop-byte : goal.invariant-loop-byte
invariant-loop-byte l = l.line.items ≡ l.initial.line.items ++ byte_pairs (take l.byte-index l.bytes)
