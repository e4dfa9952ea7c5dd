-- What a put does to the pieces of a sink.
use Rattle.std.specs.Prelude.{◌≡◌, ℕ, List, [], ◌∷◌, ◌++◌, take, Result, MatchResult, Option, None, Some, ◌⊎◌}
use Rattle.std.specs.List.{concat}

-- the bytes of the pieces, joined
abbrev pub piece_bytes : List (List ℕ) → List ℕ
piece_bytes pieces = concat pieces

-- the pieces are as before, or have one more, a prefix of these bytes
abbrev pub PutsBytePrefix : List (List ℕ) → List (List ℕ) → List ℕ → Type 0
PutsBytePrefix before now bytes = (now ≡ before) ⊎ ((kept : ℕ) × (now ≡ before ++ take kept bytes ∷ []))

-- one piece more at `Ok`, and else at most a prefix of it; unknown pieces stay unknown
abbrev pub Puts : {E : Type 0} → Option (List (List ℕ)) → Option (List (List ℕ)) → Result (Unit {0}) E → List ℕ → Type 0
Puts None now result bytes = now ≡ None
Puts (Some before) now result bytes = (pieces : List (List ℕ)) × (now ≡ Some pieces)
    × MatchResult result (λ _. pieces ≡ before ++ bytes ∷ []) (λ _. PutsBytePrefix before pieces bytes)
