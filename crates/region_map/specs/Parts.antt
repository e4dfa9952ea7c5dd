-- Parts of ranges and of lists.
use Rattle.std.specs.Prelude.{◌≡◌, ℕ, ◌+◌, ◌-◌, ◌<◌, ◌≤◌, ◌⊎◌, List, length, slice_index_or, take, drop}
use Rattle.paging_model.specs.Listings.{Stretch}
use Rattle.paging_model.specs.declared.spaces.Region.{Region}
use Rattle.region_map.specs.Coalesced.{range_target}

-- a range has the addresses that another has from the first to the last, and maps them alike
pub record IsPartIn {Kind : Type 0} (first last : ℕ) (whole part : Stretch Kind) : Type 0 where
  pub within : (x : ℕ) → part.first ≤ x → x ≤ part.last → (first ≤ x) × (x ≤ last) × (whole.first ≤ x) × (x ≤ whole.last)
  pub all : (x : ℕ) → first ≤ x → x ≤ last → whole.first ≤ x → x ≤ whole.last → (part.first ≤ x) × (x ≤ part.last)
  pub same : (x : ℕ) → part.first ≤ x → range_target part x ≡ range_target whole x

-- the places from one up to another have all that meets a range, and a region more on each side where there is one
pub record AreAround (items : List Region) (first last from to : ℕ) : Type 0 where
  pub order : from ≤ to
  pub within : to ≤ length items
  pub before : (d : Region) → 0 < from → (slice_index_or items from d).last < first
  pub after : (d : Region) → to < length items → last < (slice_index_or items (to - 1) d).first
  pub some : (0 < from → from < to) × (to < length items → from < to)

-- what stood from one place on stands from another on, and what stood before both stands as before
pub record IsMoved (from to : ℕ) (old new : List Region) : Type 0 where
  pub tail : drop to new ≡ drop from old
  pub front : (n : ℕ) → n ≤ from → n ≤ to → take n new ≡ take n old
  pub many : length new + from ≡ length old + to
