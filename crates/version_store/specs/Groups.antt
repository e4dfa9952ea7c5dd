-- Slots of a frame that changed, in groups of 16. Our own words.
use Rattle.std.specs.Prelude.{◌≡◌, ℕ, ◌/◌, ◌<◌, ◌≤◌, Bool, false, List, length, slice_index_or}

-- no slot of a group changed of which that isn't said, nor one from the end on
pub record AreGrouped (slots groups : List Bool) (end : ℕ) : Type 0 where
  pub slots_len : length slots ≡ 512
  pub groups_len : length groups ≡ 32
  pub unchanged : (i : ℕ) → i < 512 → slice_index_or groups (i / 16) false ≡ false → slice_index_or slots i false ≡ false
  pub within : end ≤ 512
  pub after : (i : ℕ) → i < 512 → end ≤ i → slice_index_or slots i false ≡ false
