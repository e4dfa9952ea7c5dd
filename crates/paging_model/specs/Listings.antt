-- The list of the mapped ranges of a linear-address space, each as long as it can be. The form of the list is our own;
-- what a page is mapped to is that of SDM 3A, "4-Level Paging and 5-Level Paging".
use Rattle.std.specs.Prelude.{◌≡◌, ℕ, ◌+◌, ◌-◌, ◌%◌, ◌^◌, ◌<◌, ◌≤◌, ◌&&◌, Bool, IsTrue, Option, Some, None, List, [], ◌∷◌, map, nat_le, if◌then◌else◌}
use Rattle.paging_model.specs.Memory.{Memory}
use Rattle.paging_model.specs.Registers.{la57, root_of}
use Rattle.paging_model.specs.LinearAddress.{is_canonical, IsPage}
use Rattle.paging_model.specs.Translations.{Target, Protection, raw_target, present_target}
use Rattle.paging_model.specs.declared.registers.Machine.{Machine}
use Rattle.paging_model.specs.declared.registers.Regs.{Regs}
use Rattle.paging_model.specs.declared.registers.Settings.{Settings}
use Rattle.paging_model.specs.declared.spaces.Area.{Area}
use Rattle.paging_model.specs.declared.spaces.Region.{Region}

-- a range of pages of one kind whose frames follow one another: its first and its last byte, and the first page's frame
pub record Stretch (Kind : Type 0) : Type 0 where
  pub first : ℕ
  pub last : ℕ
  pub frame : ℕ
  pub kind : Kind

module _ {Kind : Type 0} where
  -- whole pages, at least one, of canonical addresses
  pub record IsStretch (five_levels : Bool) (stretch : Stretch Kind) : Type 0 where
    pub begins : stretch.first % 4096 ≡ 0
    pub ends : stretch.last % 4096 ≡ 4095
    pub some : stretch.first < stretch.last
    pub below : stretch.last < 2 ^ 64
    pub canonical : (x : ℕ) → stretch.first ≤ x → x ≤ stretch.last → IsTrue (is_canonical five_levels x)

  -- each of a list is such a range
  abbrev pub AreStretches : Bool → List (Stretch Kind) → Type 0
  AreStretches five_levels [] = Unit {0}
  AreStretches five_levels (one ∷ rest) = IsStretch five_levels one × AreStretches five_levels rest

  -- the second begins where the first ends, its frames go on from the first's, and it is of the same kind
  pub record IsOneWith (first second : Stretch Kind) : Type 0 where
    pub touches : second.first ≡ first.last + 1
    pub goes_on : second.frame ≡ first.frame + (second.first - first.first)
    pub same : second.kind ≡ first.kind

  -- each ends before the next begins, and no two neighbours make one
  abbrev pub AreApart : List (Stretch Kind) → Type 0
  AreApart [] = Unit {0}
  AreApart (one ∷ []) = Unit {0}
  AreApart (one ∷ two ∷ rest) = (one.last < two.first) × (IsOneWith one two → ⊥) × AreApart (two ∷ rest)

  -- the page lies in the range
  abbrev pub has_page : Stretch Kind → ℕ → Bool
  has_page stretch page = nat_le stretch.first page && nat_le page stretch.last

  -- what a list maps a page to
  abbrev pub target_in : List (Stretch Kind) → ℕ → Option (Target Kind)
  target_in [] page = None
  target_in (one ∷ rest) page =
      if has_page one page then Some (record { frame = one.frame + (page - one.first); kind = one.kind }) else target_in rest page

  -- the listing of what each page is mapped to
  pub record IsListing (five_levels : Bool) (target : ℕ → Option (Target Kind)) (list : List (Stretch Kind)) : Type 0 where
    pub stretches : AreStretches five_levels list
    pub apart : AreApart list
    pub pages : (page : ℕ) → IsPage five_levels page → target_in list page ≡ target page

-- an area, as a range of pages with the same rights
abbrev pub stretch_of_area : Area → Stretch ℕ
stretch_of_area area = record { first = area.first; last = area.last; frame = area.frame; kind = area.rights }

-- a region, as a range of pages with the same protection
abbrev pub stretch_of_region : Region → Stretch Protection
stretch_of_region region =
    record { first = region.first; last = region.last; frame = region.frame; kind = record { bits = region.bits; key = region.key } }

-- the areas of a processor's space: by what its present registers and tables grant at each page
abbrev pub AreAreas : Memory → Machine → Regs → List Area → Type 0
AreAreas memory machine regs areas =
    IsListing (la57 regs) (present_target memory machine regs (root_of regs machine)) (map stretch_of_area areas)

-- the regions of a space: by the joined bits and the key of each page
abbrev pub AreRegions : Memory → Settings → ℕ → List Region → Type 0
AreRegions memory settings root regions =
    IsListing settings.la57 (raw_target memory settings root) (map stretch_of_region regions)
