-- The uses that a write leaves as they are.
use Rattle.std.specs.Prelude.{ℕ}
use Rattle.paging_model.specs.Memory.{Memory}
use Rattle.paging_model.specs.TableUses.{IsUse}
use Rattle.paging_model.specs.declared.spaces.SpaceKey.{SpaceKey}
use Rattle.paging_model.specs.declared.spaces.TableUse.{TableUse}
use Rattle.history_model.specs.KeptSpaces.{IsTouched}

-- a use in a memory, the walk to which reads no slot that a write of n bytes touches
pub record IsUntouched (memory : Memory) (key : SpaceKey) (at n : ℕ) (table : TableUse) : Type 0 where
  pub use_is : IsUse memory key.settings key.root table
  pub untouched : IsTouched memory key at n table → ⊥
