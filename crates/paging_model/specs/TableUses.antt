-- The tables and pages that a linear-address space uses, and how many of them are too many.
-- SDM 3A, "4-Level Paging and 5-Level Paging": each table serves the addresses whose upper bits select it.
use Rattle.std.specs.Prelude.{◌≡◌, ℕ, suc, ◌+◌, ◌%◌, ◌^◌, ◌<◌, ◌≤◌, ◌⊎◌, IsTrue, Some}
use Rattle.paging_model.specs.Memory.{Memory}
use Rattle.paging_model.specs.LinearAddress.{is_canonical, span}
use Rattle.paging_model.specs.Entries.{joined_bits, root_bits}
use Rattle.paging_model.specs.Walking.{entry_read, top_level, walk}
use Rattle.paging_model.specs.Counting.{MoreThan, AtMost}
use Rattle.paging_model.specs.declared.registers.Settings.{Settings}
use Rattle.paging_model.specs.declared.entries.Bits.{Bits}
use Rattle.paging_model.specs.declared.entries.Entry.TheVariants as entry
use Rattle.paging_model.specs.declared.walks.Page.{Page}
use Rattle.paging_model.specs.declared.walks.Walk.TheVariants.{Mapped}
use Rattle.paging_model.specs.declared.spaces.TableUse.{TableUse}

-- the walk of x comes to a table of a level, with these bits joined above it
pub data Reaches (memory : Memory) (settings : Settings) (root : ℕ) : ℕ → ℕ → ℕ → Bits → Type 0 where
  at_root : {x : ℕ} → Reaches memory settings root (top_level settings) x root root_bits
  below : {level x table frame : ℕ} {above bits : Bits}
      → Reaches memory settings root (suc level) x table above
      → entry_read memory settings (suc level) x table ≡ Some (entry.Table frame bits)
      → Reaches memory settings root level x frame (joined_bits above bits)

-- the first address of a range of canonical addresses, as long as that of an entry of a level
pub record IsPrefix (settings : Settings) (level prefix : ℕ) : Type 0 where
  pub below : prefix < 2 ^ 64
  pub whole : prefix % span level ≡ 0
  pub canonical : IsTrue (is_canonical settings.la57 prefix)

-- the top table serves the whole space; a lower one serves the range of the entry that references it
abbrev pub Serves : Settings → ℕ → ℕ → Type 0
Serves settings level prefix =
    ((level ≡ top_level settings) × (prefix ≡ 0))
    ⊎ ((1 ≤ level) × (level < top_level settings) × IsPrefix settings (level + 1) prefix)

-- a table at a frame serves entries of a level from a prefix on, with these bits joined above it; a table that is
-- reached on two ways has two uses
pub record IsUse (memory : Memory) (settings : Settings) (root : ℕ) (table : TableUse) : Type 0 where
  pub serves : Serves settings table.level table.prefix
  pub reached : Reaches memory settings root table.level table.prefix table.frame table.bits

-- the level of a mapped page, and its first address
pub record Leaf : Type 0 where
  pub level : ℕ
  pub prefix : ℕ

-- the walk of its first address ends at the page, by an entry of its level
pub record IsLeaf (memory : Memory) (settings : Settings) (root : ℕ) (leaf : Leaf) : Type 0 where
  pub prefix : IsPrefix settings leaf.level leaf.prefix
  pub page : Page
  pub mapped : walk memory settings root leaf.prefix ≡ Mapped page
  pub level : page.level ≡ leaf.level

-- the greatest number of uses of a space that is listed
abbrev pub use_limit : ℕ
use_limit = 262144

-- the greatest number of mapped pages, of any size, of a space that is listed
abbrev pub leaf_limit : ℕ
leaf_limit = 2097152

-- a space has more uses, or more mapped pages
abbrev pub IsTooLarge : Memory → Settings → ℕ → Type 0
IsTooLarge memory settings root =
    MoreThan use_limit (IsUse memory settings root) ⊎ MoreThan leaf_limit (IsLeaf memory settings root)

-- a space has no more of either
pub record IsWithinLimits (memory : Memory) (settings : Settings) (root : ℕ) : Type 0 where
  pub uses : AtMost use_limit (IsUse memory settings root)
  pub leaves : AtMost leaf_limit (IsLeaf memory settings root)
