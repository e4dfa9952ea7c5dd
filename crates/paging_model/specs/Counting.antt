-- How many things have a property: by lists of them in which none stands twice. (Plain counting, of no manual.)
use Rattle.std.specs.Prelude.{◌≡◌, ℕ, ◌<◌, ◌≤◌, ◌⊎◌, List, [], ◌∷◌, length}

module _ {Thing : Type 0} where
  -- the thing stands in the list
  abbrev pub IsIn : Thing → List Thing → Type 0
  IsIn thing [] = ⊥
  IsIn thing (one ∷ rest) = (thing ≡ one) ⊎ IsIn thing rest

  -- no thing stands in the list twice
  abbrev pub AreDistinct : List Thing → Type 0
  AreDistinct [] = Unit {0}
  AreDistinct (one ∷ rest) = (IsIn one rest → ⊥) × AreDistinct rest

  -- things that have a property, each once
  pub record AreSome (Has : Thing → Type 0) (things : List Thing) : Type 0 where
    pub have : (thing : Thing) → IsIn thing things → Has thing
    pub distinct : AreDistinct things

  -- all things that have a property, each once
  pub record AreAll (Has : Thing → Type 0) (things : List Thing) : Type 0 where
    pub some : AreSome Has things
    pub all : (thing : Thing) → Has thing → IsIn thing things

  -- so many things have the property
  pub record Count (Has : Thing → Type 0) (n : ℕ) : Type 0 where
    pub things : List Thing
    pub all : AreAll Has things
    pub many : length things ≡ n

  -- at least so many things have the property
  pub record AtLeast (n : ℕ) (Has : Thing → Type 0) : Type 0 where
    pub things : List Thing
    pub some : AreSome Has things
    pub many : n ≤ length things

  -- more than so many things have the property
  pub record MoreThan (n : ℕ) (Has : Thing → Type 0) : Type 0 where
    pub things : List Thing
    pub some : AreSome Has things
    pub many : n < length things

  -- no more than so many do
  pub record AtMost (n : ℕ) (Has : Thing → Type 0) : Type 0 where
    pub things : List Thing
    pub all : AreAll Has things
    pub many : length things ≤ n
