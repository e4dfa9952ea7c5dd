-- Examples that pin what a space maps and uses, over the small memory of the other examples: worked out by hand.
use Rattle.std.specs.Prelude.{◌≡◌, ℕ, true, Some, None, List, [], ◌∷◌}
use Rattle.paging_model.specs.Registers.{machine_of, settings_of}
use Rattle.paging_model.specs.Translations.{present_target}
use Rattle.paging_model.specs.Listings.{Stretch, AreApart, AreAreas, AreRegions, target_in}
use Rattle.paging_model.specs.Counting.{AreAll, AreDistinct}
use Rattle.paging_model.specs.TableUses.{Reaches, Serves, IsUse, Leaf, IsLeaf, IsWithinLimits, use_limit, leaf_limit}
use Rattle.paging_model.specs.WorkedExamples.{small_memory, small_regs, all, no_write, with_entry}
use Rattle.paging_model.specs.declared.registers.Machine.{Machine}
use Rattle.paging_model.specs.declared.registers.Settings.{Settings}
use Rattle.paging_model.specs.declared.entries.Bits.{Bits}
use Rattle.paging_model.specs.declared.spaces.Area.{Area}
use Rattle.paging_model.specs.declared.spaces.Region.{Region}
use Rattle.paging_model.specs.declared.spaces.TableUse.{TableUse}

-- with a physical width of 40 and 1-GByte pages
abbrev pub small_machine : Machine
small_machine = machine_of 40 true

abbrev pub small_settings : Settings
small_settings = settings_of small_regs small_machine

abbrev pub area : ℕ → ℕ → ℕ → ℕ → Stretch ℕ
area first last frame rights = record { first = first; last = last; frame = frame; kind = rights }

pub record OfTranslations : Type 0 where
  pub all_rights : present_target small_memory small_machine small_regs 0x1000 0x0 ≡ Some (record { frame = 0x5000; kind = 255 })
  pub read_only : present_target small_memory small_machine small_regs 0x1000 0x1000 ≡ Some (record { frame = 0x6000; kind = 109 })
  pub without_wp : present_target small_memory small_machine (record small_regs { cr0 = 0x80000001 }) 0x1000 0x1000 ≡ Some (record { frame = 0x6000; kind = 253 })
  pub under_lass : present_target small_memory small_machine (record small_regs { cr4 = 0x8000020 }) 0x1000 0x0 ≡ Some (record { frame = 0x5000; kind = 223 })
  pub absent : present_target small_memory small_machine small_regs 0x1000 0x2000 ≡ None
  pub in_a_large_page : present_target (with_entry 0x3000 0x4000e7 small_memory) small_machine small_regs 0x1000 0x3000 ≡ Some (record { frame = 0x403000; kind = 255 })

pub record OfListings : Type 0 where
  pub second_page : target_in (area 0x1000 0x2fff 0x5000 109 ∷ []) 0x2000 ≡ Some (record { frame = 0x6000; kind = 109 })
  pub after : target_in (area 0x1000 0x2fff 0x5000 109 ∷ []) 0x3000 ≡ None
  pub two_rights : AreApart (area 0 0xfff 0x5000 255 ∷ area 0x1000 0x1fff 0x6000 109 ∷ [])
  pub two_frames : AreApart (area 0 0xfff 0x5000 255 ∷ area 0x1000 0x1fff 0x7000 255 ∷ [])
  pub one : AreApart (area 0 0xfff 0x5000 255 ∷ area 0x1000 0x1fff 0x6000 255 ∷ []) → ⊥
  pub out_of_order : AreApart (area 0x1000 0x1fff 0x5000 255 ∷ area 0 0xfff 0x9000 255 ∷ []) → ⊥

pub record OfUses : Type 0 where
  pub lowest_table : Reaches small_memory small_settings 0x1000 1 0x1000 0x4000 all
  pub read_only_table : Reaches (with_entry 0x2000 0x3005 small_memory) small_settings 0x1000 1 0x1000 0x4000 no_write
  pub leaf : IsLeaf small_memory small_settings 0x1000 (record { level = 1; prefix = 0x1000 })
  pub top : Serves small_settings 4 0
  pub lower : Serves small_settings 1 0xffff800000200000
  pub within_a_table : Serves small_settings 1 0x1000 → ⊥
  pub twice : AreDistinct {Thing = ℕ} (1 ∷ 2 ∷ 1 ∷ []) → ⊥

-- an area as it is listed, and a region under key 0
abbrev pub mapped_area : ℕ → ℕ → ℕ → ℕ → Area
mapped_area first last frame rights = record { first = first; last = last; frame = frame; rights = rights }

abbrev pub mapped_region : ℕ → ℕ → ℕ → Bits → Region
mapped_region first last frame bits = record { first = first; last = last; frame = frame; bits = bits; key = 0 }

-- the two pages of the small memory, of which the second grants no writes
abbrev pub small_areas : List Area
small_areas = mapped_area 0x0 0xfff 0x5000 255 ∷ mapped_area 0x1000 0x1fff 0x6000 109 ∷ []

-- the whole list of a space: two pages with unlike rights, and two that make one since the topmost entry lets no one write
pub record OfAreas : Type 0 where
  pub two : AreAreas small_memory small_machine small_regs small_areas
  pub one : AreAreas (with_entry 0x1000 0x2005 small_memory) small_machine small_regs
      (mapped_area 0x0 0x1fff 0x5000 109 ∷ [])

pub record OfRegions : Type 0 where
  pub two : AreRegions small_memory small_settings 0x1000
      (mapped_region 0x0 0xfff 0x5000 all ∷ mapped_region 0x1000 0x1fff 0x6000 no_write ∷ [])
  pub one : AreRegions (with_entry 0x1000 0x2005 small_memory) small_settings 0x1000
      (mapped_region 0x0 0x1fff 0x5000 no_write ∷ [])

-- a table that serves a range from 0x0 on, with nothing refused above it, and a page of 4 KBytes
abbrev pub table_use : ℕ → ℕ → TableUse
table_use level frame = record { level = level; prefix = 0; frame = frame; bits = all }

abbrev pub small_page : ℕ → Leaf
small_page prefix = record { level = 1; prefix = prefix }

-- the tables and pages of the small memory
abbrev pub small_uses : List TableUse
small_uses = table_use 4 0x1000 ∷ table_use 3 0x2000 ∷ table_use 2 0x3000 ∷ table_use 1 0x4000 ∷ []

abbrev pub small_pages : List Leaf
small_pages = small_page 0x0 ∷ small_page 0x1000 ∷ []

-- all tables and pages of a space, which are few enough, and how many are
pub record OfLimits : Type 0 where
  pub greatest_uses : use_limit ≡ 262144
  pub greatest_leaves : leaf_limit ≡ 2097152
  pub uses : AreAll (IsUse small_memory small_settings 0x1000) small_uses
  pub leaves : AreAll (IsLeaf small_memory small_settings 0x1000) small_pages
  pub within : IsWithinLimits small_memory small_settings 0x1000
