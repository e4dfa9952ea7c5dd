-- What a write to some slots of a frame makes of kept spaces. (Our own words.)
use Rattle.std.specs.Prelude.{◌≡◌, ℕ, ◌+◌, ◌-◌, ◌*◌, ◌≤◌, List, All}
use Rattle.paging_model.specs.Memory.{Memory}
use Rattle.paging_model.specs.declared.spaces.SpaceKey.{SpaceKey}
use Rattle.history_model.specs.Bounds.{UpdatesMayTake}
use Rattle.history_model.specs.KeptSpaces.{StayKept}
use Rattle.kept_laws.specs.WrittenPlaces.{AreAlikeBut, meets_slots}
use Rattle.space_map.specs.TrueSpaces.{IsTrueOf}
use Rattle.space_map.specs.declared.space.Space.{Space}
use Rattle.kept_spaces.specs.Keys.{keys_of}

-- each space was true of a memory that differs at most in these slots of a frame
pub record WereTrue (spaces : List Space) (frame first last : ℕ) (memory : Memory) : Type 0 where
  pub old : Memory
  pub are_true : All (IsTrueOf old) spaces
  pub alike : AreAlikeBut (meets_slots frame first last) old memory

-- those that are too large now are gone, and each of the others is true of memory
pub record AreUpdated (memory : Memory) (old new : List Space) : Type 0 where
  pub keys : StayKept memory (keys_of old) (keys_of new)
  pub are_true : All (IsTrueOf memory) new

-- the spaces of these keys are updated in as many steps as that may take after a write to these slots of a frame
pub record UpdatesTake (memory : Memory) (keys : List SpaceKey) (frame first last old new : ℕ) : Type 0 where
  pub steps : ℕ
  pub may : UpdatesMayTake memory (frame + 8 * first) (8 * (last + 1 - first)) keys steps
  pub bound : new ≤ old + steps

-- one space in place of another of its key, true of memory
pub record IsUpdated (memory : Memory) (old new : Space) : Type 0 where
  pub key : new.key ≡ old.key
  pub is_true : IsTrueOf memory new
