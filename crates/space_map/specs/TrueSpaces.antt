-- What it is for a space to be true of memory, and how many steps it takes to build one.
-- SDM 3A, "4-Level Paging and 5-Level Paging".
use Rattle.std.specs.Prelude.{◌≡◌, ℕ, ◌+◌, ◌*◌, ◌≤◌}
use Rattle.paging_model.specs.Counting.{AreAll, AtLeast}
use Rattle.paging_model.specs.Memory.{Memory}
use Rattle.paging_model.specs.Listings.{AreRegions}
use Rattle.paging_model.specs.TableUses.{IsUse, IsTooLarge, IsWithinLimits, use_limit}
use Rattle.paging_model.specs.declared.spaces.SpaceKey.{SpaceKey}
use Rattle.frame_index.specs.declared.counted_use.CountedUse.{CountedUse}
use Rattle.kept_laws.specs.PageNumbers.{page_number}
use Rattle.space_map.specs.declared.faults.SpaceFault.{SpaceFault}
use Rattle.space_map.specs.declared.faults.SpaceFault.TheVariants.{TooLarge}
use Rattle.space_map.specs.declared.space.Space.{Space}

-- a use of the key's space, and how many entries of its table map a page
pub record IsCountedUse (memory : Memory) (key : SpaceKey) (one : CountedUse) : Type 0 where
  pub is_use : IsUse memory key.settings key.root one.table
  pub pages : one.pages ≡ page_number memory key.settings one.table

-- its index has exactly the uses of its key's space, each with its number of pages; its regions are those of the space;
-- and the space is within the limits
pub record IsTrueOf (memory : Memory) (space : Space) : Type 0 where
  pub index : AreAll (IsCountedUse memory space.key) space.index
  pub regions : AreRegions memory space.key.settings space.key.root space.regions
  pub within : IsWithinLimits memory space.key.settings space.key.root

-- it is the space of a key
pub record IsSpaceOf (memory : Memory) (key : SpaceKey) (space : Space) : Type 0 where
  pub key_is : space.key ≡ key
  pub is_true : IsTrueOf memory space

-- the key's space is too large, where that is the fault
abbrev pub IsTooLargeAt : Memory → SpaceKey → SpaceFault → Type 0
IsTooLargeAt memory key fault = fault ≡ TooLarge → IsTooLarge memory key.settings key.root

-- at most 512 steps for each of so many uses of tables, and no more uses than there may be
pub record BuildTakes (memory : Memory) (key : SpaceKey) (old new : ℕ) : Type 0 where
  pub uses : ℕ
  pub are_uses : AtLeast uses (IsUse memory key.settings key.root)
  pub few : uses ≤ use_limit
  pub bound : new ≤ old + 512 * uses
