-- Prefixes of the bytes of a name.
use Rattle.std.proofs.Common.{◌≡◌, ℕ, ◌+◌, ◌≤◌, List, ◌++◌, length, take, drop, arith}
use Rattle.std.proofs.lemmas.Grind.{common_steps}
use Rattle.std.proofs.Math.Seq.{take-add}
use Rattle.outside.specs.Shelf.{ReadsFrom}
use Rattle.outside.specs.Whole.{IsBytePrefix}

-- a prefix, and after it bytes that were read from its end on, are a prefix together
pub IsBytePrefix-append : (content have into : List ℕ) (at count : ℕ) → at ≡ length have → IsBytePrefix content have → ReadsFrom content at count into
    → count ≤ length into → IsBytePrefix content (have ++ take count into)
IsBytePrefix-append content have into at count at_is prefix reads within =
    let total : length (have ++ take count into) ≡ length have + count = grind (arith, common_steps) in
    let joined : take (length have + count) content ≡ take (length have) content ++ take count (drop (length have) content) = take-add (length have) count content in
    record {
      within = omega (arith, total, reads.there, prefix.within);
      same = grind (arith, common_steps, total, joined, reads.same, prefix.same);
    }
