-- The words of a line, by how many are left.
use Rattle.std.specs.Prelude.{◌≡◌, ℕ, List, [], ◌∷◌}

-- one word alone
pub record IsOneWord (words : List (List ℕ)) : Type 0 where
  pub word : List ℕ
  pub is : words ≡ word ∷ []
