-- The bytes of the pieces of a sink, joined.
use Rattle.std.proofs.Common.{◌≡◌, ℕ, List, [], ◌∷◌, ◌++◌, arith}
use Rattle.std.proofs.lemmas.Grind.{common_steps}
use Rattle.std.proofs.lemmas.List.Folds.{concat-append}
use Rattle.outside.specs.Sink.{piece_bytes}

-- the bytes with one piece more
pub piece_bytes-append : (pieces : List (List ℕ)) (piece : List ℕ) → piece_bytes (pieces ++ piece ∷ []) ≡ piece_bytes pieces ++ piece
piece_bytes-append pieces piece = grind (arith, common_steps, concat-append)
