-- The pages that walks end at.
use Rattle.std.specs.Prelude.{◌<◌, ◌≤◌}
use Rattle.paging_model.specs.declared.walks.Page.{Page}
use Rattle.paging_model.specs.declared.walks.Walk.{Walk}
use Rattle.paging_model.specs.declared.walks.Walk.TheVariants.{Mapped}

-- mapped by a leaf of level 1 to 3, with a key under 16
pub record IsOfLeaf (page : Page) : Type 0 where
  pub least : 1 ≤ page.level
  pub most : page.level ≤ 3
  pub of_key : page.key < 16

-- where a walk ends at a page, it is such a page
abbrev pub EndsAtLeaf : Walk → Type 0
EndsAtLeaf (Mapped page) = IsOfLeaf page
EndsAtLeaf _ = Unit {0}
