-- Entries of a table as the walks of a space come to them.
use Rattle.std.specs.Prelude.{◌≡◌, ℕ, ◌+◌, ◌*◌, ◌%◌, ◌^◌, ◌<◌, ◌≤◌, IsTrue}
use Rattle.paging_model.specs.Memory.{Memory}
use Rattle.paging_model.specs.LinearAddress.{span, is_canonical}
use Rattle.paging_model.specs.TableUses.{Reaches, IsUse, Leaf, IsLeaf}
use Rattle.paging_model.specs.Walking.{top_level}
use Rattle.paging_model.specs.declared.registers.Settings.{Settings}
use Rattle.paging_model.specs.declared.entries.Bits.{Bits}
use Rattle.paging_model.specs.declared.spaces.TableUse.{TableUse}
use Rattle.paging_laws.specs.SpaceParts.{slot_prefix}

-- so many entries of a table, from one on: each address that they serve is canonical, and its walk comes to the table
pub record AreReached (memory : Memory) (settings : Settings) (root level table prefix : ℕ) (above : Bits) (from count : ℕ)
    : Type 0 where
  pub whole : prefix % (512 * span level) ≡ 0
  pub slots : from + count ≤ 512
  pub ends : prefix + 512 * span level ≤ 2 ^ 64
  pub canonical : (x : ℕ) → slot_prefix level prefix from ≤ x → x < slot_prefix level prefix (from + count)
      → IsTrue (is_canonical settings.la57 x)
  pub reached : (x : ℕ) → slot_prefix level prefix from ≤ x → x < slot_prefix level prefix (from + count)
      → Reaches memory settings root level x table above

-- a use of a level below this one that begins in a range
pub record IsUseWithin (memory : Memory) (settings : Settings) (root level low high : ℕ) (table : TableUse) : Type 0 where
  pub is_use : IsUse memory settings root table
  pub lower : table.level < level
  pub from : low ≤ table.prefix
  pub before : table.prefix < high

-- a page that begins in a range
pub record IsLeafWithin (memory : Memory) (settings : Settings) (root low high : ℕ) (leaf : Leaf) : Type 0 where
  pub is_leaf : IsLeaf memory settings root leaf
  pub from : low ≤ leaf.prefix
  pub before : leaf.prefix < high

-- the address lies in the range of one of 256 entries of the top table, from this one on
abbrev pub LiesInHalf : Settings → ℕ → ℕ → ℕ → Type 0
LiesInHalf settings prefix from x =
    (slot_prefix (top_level settings) prefix from ≤ x) × (x < slot_prefix (top_level settings) prefix (from + 256))
