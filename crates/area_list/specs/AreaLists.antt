-- Lists of areas, as maps; and with one area more after the others.
use Rattle.std.specs.Prelude.{◌≡◌, ℕ, ◌-◌, ◌<◌, ◌≤◌, ◌⊎◌, Option, Some, None, List, map, length, slice_index_or}
use Rattle.paging_model.specs.Listings.{Stretch, IsOneWith, target_in, stretch_of_area, stretch_of_region}
use Rattle.paging_model.specs.Translations.{Target, granted_target}
use Rattle.paging_model.specs.declared.registers.Regs.{Regs}
use Rattle.paging_model.specs.declared.spaces.Area.{Area}
use Rattle.paging_model.specs.declared.spaces.Region.{Region}
use Rattle.region_map.specs.Coalesced.{AreCoalesced, IsFilled, range_target, target_at}

-- areas as ranges of pages
abbrev pub area_stretches : List Area → List (Stretch ℕ)
area_stretches areas = map stretch_of_area areas

-- what a list of areas maps an address to
abbrev pub area_target : List Area → ℕ → Option (Target ℕ)
area_target areas x = target_in (area_stretches areas) x

-- the map maps no address from this one on
abbrev pub IsUnmappedFrom : ℕ → (ℕ → Option (Target ℕ)) → Type 0
IsUnmappedFrom first target = (x : ℕ) → first ≤ x → target x ≡ None

-- the last area of a list makes one with another
abbrev pub JoinsLast : List Area → Area → Type 0
JoinsLast areas area =
    (0 < length areas)
    × ((d : Area) → IsOneWith (stretch_of_area (slice_index_or areas (length areas - 1) d)) (stretch_of_area area))

-- the list has the form of a map, and maps what the area says besides what it did
pub record IsAppended (area : Area) (old new : List Area) : Type 0 where
  pub coalesced : AreCoalesced (area_stretches new)
  pub filled : IsFilled (stretch_of_area area) (area_target old) (area_target new)

-- the list has the form of a map, and maps what the registers grant of the region besides what it did
pub record IsGrantAdded (regs : Regs) (region : Region) (old new : List Area) : Type 0 where
  pub coalesced : AreCoalesced (area_stretches new)
  pub inside : (x : ℕ) → region.first ≤ x → x ≤ region.last
      → area_target new x ≡ granted_target regs x (Some (range_target (stretch_of_region region) x))
  pub outside : (x : ℕ) → ((x < region.first) ⊎ (region.last < x)) → area_target new x ≡ area_target old x

-- the areas have the form of a map, and map what the registers grant of the regions
pub record AreAreasOf (regs : Regs) (regions : List Region) (areas : List Area) : Type 0 where
  pub coalesced : AreCoalesced (area_stretches areas)
  pub targets : (x : ℕ) → area_target areas x ≡ granted_target regs x (target_at regions x)
