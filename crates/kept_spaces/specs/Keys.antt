-- The keys of kept spaces. (Our own words.)
use Rattle.std.specs.Prelude.{◌≤◌, Bool, List, length, map}
use Rattle.paging_model.specs.Counting.{AreDistinct}
use Rattle.paging_model.specs.declared.spaces.SpaceKey.{SpaceKey}
use Rattle.history_model.specs.KeptSpaces.{kept_limit, same_key}
use Rattle.space_map.specs.declared.space.Space.{Space}

-- the keys of spaces
abbrev pub keys_of : List Space → List SpaceKey
keys_of spaces = map (λ (one : Space). one.key) spaces

-- the space has this key
abbrev pub has_key : SpaceKey → Space → Bool
has_key key space = same_key space.key key

-- so few spaces may be kept, each of them once
pub record MayBeKept (spaces : List Space) : Type 0 where
  pub few : length spaces ≤ kept_limit
  pub distinct : AreDistinct (keys_of spaces)
