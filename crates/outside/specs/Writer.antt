-- What a writer has after it took bytes.
use Rattle.std.specs.Prelude.{ℕ, List, take, Option}
use Rattle.std.specs.Io.KnownBytes.{Appends}

-- known bytes grow by a prefix of these bytes
abbrev pub AppendsBytePrefix : Option (List ℕ) → Option (List ℕ) → List ℕ → Type 0
AppendsBytePrefix before now bytes = (count : ℕ) × Appends before now (take count bytes)
