-- The place of a new region among the others, and what comes of adding it there.
use Rattle.std.specs.Prelude.{ℕ, ◌-◌, ◌<◌, ◌≤◌, List, length, slice_index_or}
use Rattle.paging_model.specs.Listings.{IsOneWith, stretch_of_region}
use Rattle.paging_model.specs.declared.spaces.Region.{Region}
use Rattle.region_map.specs.Coalesced.{AreCoalesced, IsFilled, stretches, target_at}

-- the region before the place ends before the new one, and that at the place begins after it
pub record IsPlace (items : List Region) (place : ℕ) (region : Region) : Type 0 where
  pub within : place ≤ length items
  pub before : (d : Region) → 0 < place → (slice_index_or items (place - 1) d).last < region.first
  pub after : (d : Region) → place < length items → region.last < (slice_index_or items place d).first

-- the region before the place makes one with the new one
abbrev pub JoinsPrevious : List Region → ℕ → Region → Type 0
JoinsPrevious items place region =
    (0 < place) × ((d : Region) → IsOneWith (stretch_of_region (slice_index_or items (place - 1) d)) (stretch_of_region region))

-- the new one makes one with the region at the place
abbrev pub JoinsNext : List Region → ℕ → Region → Type 0
JoinsNext items place region =
    (place < length items) × ((d : Region) → IsOneWith (stretch_of_region region) (stretch_of_region (slice_index_or items place d)))

-- the list has the form of a map, and maps what the region says besides what it did
pub record IsAdded (region : Region) (old new : List Region) : Type 0 where
  pub coalesced : AreCoalesced (stretches new)
  pub filled : IsFilled (stretch_of_region region) (target_at old) (target_at new)
