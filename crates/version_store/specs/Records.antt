-- How the changes of a frame are kept: in records of 16 bytes, 256 of them to a block. Our own format.
use Rattle.std.specs.Prelude.{◌≡◌, Bool, true, ℕ, zero, suc, ◌+◌, ◌*◌, ◌/◌, ◌%◌, ◌<◌, ◌≤◌, length, List, [], ◌∷◌, ◌++◌, drop, slice_index_or}
use Rattle.byteorder.specs.Endian.{little_number}
use Rattle.version_store.specs.Changes.{IsSlotOffset, last_time}
use Rattle.version_store.specs.declared.change.Change.{Change}

-- the change whose record bytes begin with
abbrev pub change_from : List ℕ → Change
change_from bytes = record {
  offset = little_number 2 bytes;
  time = little_number 4 (drop 4 bytes);
  old = little_number 8 (drop 8 bytes);
}

-- the change with a number, of those that stand in blocks one after another
abbrev pub change_at : List (List ℕ) → ℕ → Change
change_at blocks n = change_from (drop (16 * (n % 256)) (slice_index_or blocks (n / 256) []))

-- the first so many changes of those in blocks
abbrev pub changes_in : List (List ℕ) → ℕ → List Change
changes_in blocks zero = []
changes_in blocks (suc n) = changes_in blocks n ++ change_at blocks n ∷ []

-- so many blocks have room for so many changes, and one block less has not
pub record IsFilledTo (blocks : List (List ℕ)) (n : ℕ) : Type 0 where
  pub room : n ≤ 256 * length blocks
  pub full : 256 * length blocks < n + 256

-- none of the first so many changes in blocks stands after one of a later time
abbrev pub AreInOrderOfTime : List (List ℕ) → ℕ → Type 0
AreInOrderOfTime blocks n = (i : ℕ) → i < n → last_time (changes_in blocks (i + 1)) ≤ (change_at blocks i).time

-- the changes of a frame: they fill their blocks, each is of a slot, whose place in the frame is a multiple of 8, the last has
-- this time, and they are in order where that is said
pub record AreOfFrame (blocks : List (List ℕ)) (n last : ℕ) (are_in_order : Bool) : Type 0 where
  pub filled : IsFilledTo blocks n
  pub slots : (i : ℕ) → i < n → IsSlotOffset (change_at blocks i).offset
  pub last_is : last ≡ last_time (changes_in blocks n)
  pub order : are_in_order ≡ true → AreInOrderOfTime blocks n
