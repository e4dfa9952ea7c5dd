-- Where a walk ends.
use Rattle.std.specs.Prelude.{◌≡◌, ℕ, ◌+◌, ◌%◌, ◌^◌, ◌<◌, ◌≤◌}
use Rattle.paging_model.specs.declared.walks.Page.{Page}
use Rattle.paging_model.specs.declared.walks.Walk.{Walk}
use Rattle.paging_model.specs.declared.walks.Walk.TheVariants.{Mapped, Absent, Reserved, Unknown}

-- the level of the last entry that the walk read or tried to read
abbrev pub last_level : Walk → ℕ
last_level (Mapped page) = page.level
last_level (Absent level) = level
last_level (Reserved level) = level
last_level (Unknown level) = level

-- a 4-KByte page within the greatest physical width, by a leaf of level 3 at most
pub record IsMappedPage (page : Page) : Type 0 where
  pub large : page.level ≤ 3
  pub aligned : page.frame % 4096 ≡ 0
  pub ends : page.frame + 4096 ≤ 2 ^ 52
  pub key : page.key < 16

-- where the walk maps the address, it maps it to such a page
abbrev pub HasPage : Walk → Type 0
HasPage (Mapped page) = IsMappedPage page
HasPage _ = Unit {0}
