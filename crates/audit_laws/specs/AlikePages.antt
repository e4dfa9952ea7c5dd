-- Pages of a range that one page maps, or none, and that one held page serves.
-- Our own words, over SDM 3A, "4-Level Paging and 5-Level Paging": a page maps its range from the first address on.
use Rattle.std.specs.Prelude.{ℕ, ◌+◌, ◌-◌, ◌^◌, ◌<◌, ◌≤◌, Option, Some, None}
use Rattle.paging_model.specs.Translations.{Protection, Target, granted_target}
use Rattle.paging_model.specs.declared.registers.Regs.{Regs}
use Rattle.paging_laws.specs.LeafRanges.{AreInOneRange}
use Rattle.history_model.specs.CachedTranslations.{Held}
use Rattle.history_model.specs.StaleTranslations.{Exceeds, excess_over, held_target}

-- what an address is mapped to by the page that maps a range, from the range's first address on; none where none does
abbrev pub target_within : Option (Target Protection) → ℕ → ℕ → Option (Target Protection)
target_within None first x = None
target_within (Some page) first x = Some (record { frame = page.frame + (x - first); kind = page.kind })

-- two addresses lie in such a range, and in the range of one entry of a level that maps pages
pub record AreInOnePage (level first x y : ℕ) : Type 0 where
  pub of_pages : level ≤ 3
  pub below : x < 2 ^ 64
  pub one_range : AreInOneRange level x y
  pub from_first : first ≤ x
  pub other_from_first : first ≤ y

-- a held translation exceeds at x what the range's page, or none, grants
abbrev pub ExceedsWithin : Regs → Option (Target Protection) → ℕ → ℕ → Held → ℕ → Type 0
ExceedsWithin known page first level held x =
    Exceeds (granted_target known x (target_within page first x)) (held_target known level x held)

-- by how much it does
abbrev pub excess_within : Regs → Option (Target Protection) → ℕ → ℕ → Held → ℕ → ℕ
excess_within known page first level held x =
    excess_over (granted_target known x (target_within page first x)) (held_target known level x held)
