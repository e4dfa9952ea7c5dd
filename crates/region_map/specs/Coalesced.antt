-- The coalesced map of a space: ranges of whole pages, each as long as it can be; and the map with one range more.
-- The form of the list is our own; that of a page and of its frame is that of SDM 3A, "4-Level Paging and 5-Level Paging".
use Rattle.std.specs.Prelude.{◌≡◌, ℕ, ◌+◌, ◌-◌, ◌%◌, ◌^◌, ◌<◌, ◌≤◌, ◌⊎◌, Option, Some, None, List, [], ◌∷◌, map, if◌then◌else◌}
use Rattle.paging_model.specs.Listings.{Stretch, AreApart, has_page, target_in, stretch_of_region}
use Rattle.paging_model.specs.Translations.{Target, Protection}
use Rattle.paging_model.specs.declared.spaces.Region.{Region}

module _ {Kind : Type 0} where
  -- whole pages, at least one, and whole frames of a physical address of 52 bits; which addresses are canonical is no matter
  pub record IsPageRange (stretch : Stretch Kind) : Type 0 where
    pub begins : stretch.first % 4096 ≡ 0
    pub ends : stretch.last % 4096 ≡ 4095
    pub some : stretch.first < stretch.last
    pub below : stretch.last < 2 ^ 64
    pub framed : stretch.frame % 4096 ≡ 0
    pub fits : stretch.frame + (stretch.last - stretch.first) < 2 ^ 52

  -- each of a list is such a range
  abbrev pub ArePageRanges : List (Stretch Kind) → Type 0
  ArePageRanges [] = Unit {0}
  ArePageRanges (one ∷ rest) = IsPageRange one × ArePageRanges rest

  -- ranges that ascend, are disjoint, and of which no two neighbours make one
  pub record AreCoalesced (list : List (Stretch Kind)) : Type 0 where
    pub ranges : ArePageRanges list
    pub apart : AreApart list

  -- what a range maps an address to: each page to its own frame, all of them as one kind
  abbrev pub range_target : Stretch Kind → ℕ → Target Kind
  range_target stretch x = record { frame = stretch.frame + (x - stretch.first); kind = stretch.kind }

  -- the map maps no address of the range
  abbrev pub IsUnmapped : Stretch Kind → (ℕ → Option (Target Kind)) → Type 0
  IsUnmapped stretch target = (x : ℕ) → stretch.first ≤ x → x ≤ stretch.last → target x ≡ None

  -- the new map maps the addresses of the range as it says, and all others as before
  pub record IsFilled (stretch : Stretch Kind) (old new : ℕ → Option (Target Kind)) : Type 0 where
    pub inside : (x : ℕ) → stretch.first ≤ x → x ≤ stretch.last → new x ≡ Some (range_target stretch x)
    pub outside : (x : ℕ) → ((x < stretch.first) ⊎ (stretch.last < x)) → new x ≡ old x

  -- the new map maps no address from the first to the last, and all others as before
  pub record IsCleared (first last : ℕ) (old new : ℕ → Option (Target Kind)) : Type 0 where
    pub inside : (x : ℕ) → first ≤ x → x ≤ last → new x ≡ None
    pub outside : (x : ℕ) → ((x < first) ⊎ (last < x)) → new x ≡ old x

  -- the new map maps the addresses from the first to the last as another does, and all others as before
  pub record IsCopied (first last : ℕ) (other old new : ℕ → Option (Target Kind)) : Type 0 where
    pub inside : (x : ℕ) → first ≤ x → x ≤ last → new x ≡ other x
    pub outside : (x : ℕ) → ((x < first) ⊎ (last < x)) → new x ≡ old x

-- the first byte of a page and the last byte of one that doesn't stand before it
pub record AreWholePages (first last : ℕ) : Type 0 where
  pub begins : first % 4096 ≡ 0
  pub ends : last % 4096 ≡ 4095
  pub order : first < last

-- regions as ranges of pages
abbrev pub stretches : List Region → List (Stretch Protection)
stretches regions = map stretch_of_region regions

-- what a list of regions maps an address to
abbrev pub target_at : List Region → ℕ → Option (Target Protection)
target_at regions x = target_in (stretches regions) x

-- the region of a list that holds an address
abbrev pub region_at : List Region → ℕ → Option Region
region_at [] x = None
region_at (one ∷ rest) x = if has_page (stretch_of_region one) x then Some one else region_at rest x
