-- What the level of an entry says of its meaning.
use Rattle.std.specs.Prelude.{◌≡◌, ℕ, ◌+◌, ◌%◌, ◌^◌, ◌≤◌}
use Rattle.paging_model.specs.LinearAddress.{span}
use Rattle.paging_model.specs.declared.entries.Entry.{Entry}
use Rattle.paging_model.specs.declared.entries.Entry.TheVariants as entry

-- a page that an entry of a level may map: of 4 KBytes, 2 MBytes or 1 GByte, at a multiple of its size,
-- and at its end still within the greatest physical width
pub record IsFrameOfLevel (level frame : ℕ) : Type 0 where
  pub least : 1 ≤ level
  pub most : level ≤ 3
  pub aligned : frame % span level ≡ 0
  pub ends : frame + span level ≤ 2 ^ 52

-- an entry of level 1 references no table, and one above level 3 maps no page
abbrev pub IsOfLevel : ℕ → Entry → Type 0
IsOfLevel level (entry.Table frame bits) = 2 ≤ level
IsOfLevel level (entry.Leaf frame bits key global) = IsFrameOfLevel level frame
IsOfLevel level _ = Unit {0}
