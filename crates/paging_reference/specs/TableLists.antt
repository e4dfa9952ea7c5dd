-- The tables and the pages of given prefixes alone.
use Rattle.std.specs.Prelude.{◌≡◌, ℕ, List}
use Rattle.paging_model.specs.Counting.{IsIn}
use Rattle.paging_model.specs.Memory.{Memory}
use Rattle.paging_model.specs.TableUses.{IsLeaf, IsUse, Leaf, Reaches}
use Rattle.paging_model.specs.declared.registers.Settings.{Settings}
use Rattle.paging_model.specs.declared.spaces.TableUse.{TableUse}

-- the table of a level that the walk of an address comes to
pub record IsReached (memory : Memory) (settings : Settings) (root level x : ℕ) (table : TableUse) : Type 0 where
  pub of_level : table.level ≡ level
  pub of_address : table.prefix ≡ x
  pub reached : Reaches memory settings root level x table.frame table.bits

-- a use of a level that begins at a prefix
pub record IsUseAt (memory : Memory) (settings : Settings) (root level prefix : ℕ) (table : TableUse) : Type 0 where
  pub of_level : table.level ≡ level
  pub of_prefix : table.prefix ≡ prefix
  pub is_use : IsUse memory settings root table

-- a use that begins at one of these prefixes
pub record IsUseAmong (memory : Memory) (settings : Settings) (root : ℕ) (prefixes : List ℕ) (table : TableUse) : Type 0 where
  pub listed : IsIn table.prefix prefixes
  pub is_use : IsUse memory settings root table

-- a mapped page that begins at one of these prefixes
pub record IsLeafAmong (memory : Memory) (settings : Settings) (root : ℕ) (prefixes : List ℕ) (leaf : Leaf) : Type 0 where
  pub listed : IsIn leaf.prefix prefixes
  pub is_leaf : IsLeaf memory settings root leaf
