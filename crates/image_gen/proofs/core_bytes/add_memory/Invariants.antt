use Rattle.std.proofs.Common.{◌≡◌, ◌++◌}
use Rattle.image_gen.specs.GeneratedCore.{memory_from}
use Rattle.image_gen.proofs.core_bytes.add_memory.Given as goal

abbrev pub invariant-loop-index : goal.invariant-loop-index
invariant-loop-index l = l.bytes.items ≡ l.initial.bytes.items ++ memory_from 0 l.index
