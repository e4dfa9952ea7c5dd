-- Which addresses a leaf serves, and what it maps them to.
use Rattle.std.specs.Prelude.{◌≡◌, ℕ, ◌+◌, ◌*◌, ◌/◌, ◌%◌}
use Rattle.paging_model.specs.Memory.{Memory}
use Rattle.paging_model.specs.LinearAddress.{span}
use Rattle.paging_model.specs.TableUses.{IsLeaf, Leaf}
use Rattle.paging_model.specs.Walking.{walk}
use Rattle.paging_model.specs.declared.registers.Settings.{Settings}
use Rattle.paging_model.specs.declared.walks.Page.{Page}
use Rattle.paging_model.specs.declared.walks.Walk.TheVariants.{Mapped}

-- two addresses lie in one range of a level
abbrev pub AreInOneRange : ℕ → ℕ → ℕ → Type 0
AreInOneRange level x y = x / span level ≡ y / span level

-- how far the page of an address is from the first one of its range of a level, in bytes
abbrev pub page_offset : ℕ → ℕ → ℕ
page_offset level x = x % span level / 4096 * 4096

-- y is mapped as x is to a page: as far from the page as the two addresses are apart
pub record IsMappedAlike (memory : Memory) (settings : Settings) (root x y : ℕ) (page : Page) : Type 0 where
  pub other : Page
  pub mapped : walk memory settings root y ≡ Mapped other
  pub frame : other.frame + page_offset page.level x ≡ page.frame + page_offset page.level y
  pub level : other.level ≡ page.level
  pub bits : other.bits ≡ page.bits
  pub key : other.key ≡ page.key
  pub global : other.global ≡ page.global

-- a leaf of a level that serves x
pub record LeafFor (memory : Memory) (settings : Settings) (root level x : ℕ) : Type 0 where
  pub leaf : Leaf
  pub is_leaf : IsLeaf memory settings root leaf
  pub served : AreInOneRange leaf.level x leaf.prefix
  pub is_level : leaf.level ≡ level
