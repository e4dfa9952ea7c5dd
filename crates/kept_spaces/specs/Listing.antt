-- What comes of a space that is listed. (Our own words.)
use Rattle.std.specs.Prelude.{◌≡◌, ℕ, ◌⊎◌, List, ◌∷◌, All, remove, slice_index_or, take}
use Rattle.paging_model.specs.Counting.{IsIn}
use Rattle.paging_model.specs.Memory.{Memory}
use Rattle.paging_model.specs.declared.spaces.SpaceKey.{SpaceKey}
use Rattle.history_model.specs.KeptSpaces.{kept_limit, listed_first}
use Rattle.space_map.specs.TrueSpaces.{BuildTakes, IsTrueOf}
use Rattle.space_map.specs.declared.space.Space.{Space}
use Rattle.kept_spaces.specs.Keys.{keys_of}

-- the space of a key comes first, and each one is true of memory
pub record IsListed (memory : Memory) (key : SpaceKey) (old new : List Space) : Type 0 where
  pub keys : keys_of new ≡ listed_first key (keys_of old)
  pub are_true : All (IsTrueOf memory) new

-- a kept space is listed without a step, and another one is built
abbrev pub ListTakes : Memory → List SpaceKey → SpaceKey → ℕ → ℕ → Type 0
ListTakes memory keys key old new =
    (IsIn key keys × (new ≡ old)) ⊎ ((IsIn key keys → ⊥) × BuildTakes memory key old new)

-- the one at an index moved to the front
abbrev pub IsMovedFirst : ℕ → List Space → List Space → Type 0
IsMovedFirst index old new = (d : Space) → new ≡ slice_index_or old index d ∷ remove old index

-- the space comes before the others, as far as so many may be kept
abbrev pub IsPutFirst : Space → List Space → List Space → Type 0
IsPutFirst space old new = new ≡ take kept_limit (space ∷ old)
