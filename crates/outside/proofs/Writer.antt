-- What a writer has after two writes.
use Rattle.std.proofs.Common.{◌≡◌, ℕ, ◌+◌, ◌-◌, List, ◌++◌, length, take, drop, Result, Ok, Err, OnErr, arith}
use Rattle.std.proofs.lemmas.Grind.{common_steps}
use Rattle.std.specs.Prelude.{Option}
use Rattle.std.specs.Io.KnownBytes.{Appends}
use Rattle.std.proofs.KnownBytes.{Appends-trans}
use Rattle.std.proofs.Math.Seq.{take-add, take-append-add}
use Rattle.outside.specs.Writer.{AppendsBytePrefix}

-- a write of a prefix of the bytes that are left
pub appends_next : (before now after : Option (List ℕ)) (bytes : List ℕ) (done count : ℕ) → Appends before now (take done bytes)
    → Appends now after (take count (take (length bytes - done) (drop done bytes))) → Appends before after (take (done + count) bytes)
appends_next before now after bytes done count first next =
    let rest : take (length bytes - done) (drop done bytes) ≡ drop done bytes = grind (arith, common_steps) in
    rw (take-add done count bytes) (Appends-trans before now after _ _ first (rw rest at next))

-- a prefix of the bytes that stand after those that were written
pub prefix_after : {T E : Type 0} (before now after : Option (List ℕ)) (first bytes : List ℕ) (result : Result T E) → Appends before now first
    → OnErr result (AppendsBytePrefix now after bytes) → OnErr result (AppendsBytePrefix before after (first ++ bytes))
prefix_after before now after first bytes (Ok value) written prefix = tt
prefix_after before now after first bytes (Err error) written prefix =
    (length first + prefix.0, rw (take-append-add first bytes prefix.0) (Appends-trans before now after _ _ written prefix.1))
