-- What is known of a name of a shelf, and what a read gives of it.
use Rattle.std.specs.Prelude.{◌≡◌, ℕ, ◌+◌, ◌-◌, ◌<◌, ◌≤◌, ◌==◌, max, cond, List, length, take, drop, Result, Ok, Err, IfOk, IsErr, ⊤}

-- what is known of a name: nothing, that it has no bytes, or its bytes
pub data Known : Type 0 where
  unspecified : Known
  missing : Known
  has_bytes : List ℕ → Known

-- the first `count` bytes of `into` are those from the offset `at` on, and there are none only at the end or after it
pub record ReadsFrom (bytes : List ℕ) (at count : ℕ) (into : List ℕ) : Type 0 where
  pub there : count ≤ length bytes - at
  pub same : take count into ≡ take count (drop at bytes)
  pub none : count ≡ 0 → 0 < length into → length bytes ≤ at

-- a read gives the bytes that are known, and fails where a name is known to have none
abbrev pub Reads : {E : Type 0} → Known → ℕ → Result ℕ E → List ℕ → Type 0
Reads unspecified at result into = ⊤
Reads missing at result into = IsErr result
Reads (has_bytes bytes) at result into = IfOk result (λ count. ReadsFrom bytes at count into)

-- the greatest offset up to which reads of a name gave bytes, after one that gave `count` of them from an offset on
abbrev pub raised_reach : ℕ → ℕ → ℕ → ℕ
raised_reach reach at count = cond (count == 0) reach (max reach (at + count))

-- the greatest offset after a read with this result; one that failed gave no bytes
abbrev pub reach_after : {E : Type 0} → ℕ → ℕ → Result ℕ E → ℕ
reach_after reach at (Ok count) = raised_reach reach at count
reach_after reach at (Err error) = reach
