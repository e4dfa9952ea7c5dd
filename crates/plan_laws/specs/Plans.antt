-- The patches that a write to slots of one frame makes of a space: those slots of each use of the frame above which its
-- walks read no written entry. SDM 3A, "4-Level Paging and 5-Level Paging": one table may stand at many places of a space.
use Rattle.std.specs.Prelude.{◌≡◌, ℕ, ◌+◌, ◌-◌, ◌<◌, ◌≤◌, min, max, List, [], ◌∷◌}
use Rattle.paging_model.specs.Counting.{IsIn, AreDistinct}
use Rattle.paging_model.specs.LinearAddress.{index}
use Rattle.paging_model.specs.Walking.{top_level}
use Rattle.paging_model.specs.declared.registers.Settings.{Settings}
use Rattle.paging_model.specs.declared.spaces.TableUse.{TableUse}
use Rattle.paging_laws.specs.ServedAddresses.{IsServedBy}
use Rattle.paging_laws.specs.SpaceParts.{upper_prefix}
use Rattle.kept_laws.specs.Patches.{low_of}
use Rattle.kept_laws.specs.declared.patches.Patch.{Patch}

-- the slots of a table from a first to a last one, where the table's entry 0 serves, or would serve, from a prefix on
abbrev pub patch_at : TableUse → ℕ → ℕ → ℕ → Patch
patch_at table prefix first last = record {
  table = record { level = table.level; prefix = prefix; frame = table.frame; bits = table.bits };
  from = first;
  count = last + 1 - first;
}

-- the patch of a lower table's slots, or of the top table's in one half of the space: its entries 0 to 255 serve the
-- lower half of the canonical addresses, and 256 to 511 the upper one
pub data IsPartOf (settings : Settings) (first last : ℕ) (table : TableUse) (patch : Patch) : Type 0 where
  lower_part : table.level < top_level settings → patch ≡ patch_at table table.prefix first last
      → IsPartOf settings first last table patch
  lower_half : table.level ≡ top_level settings → first ≤ 255 → patch ≡ patch_at table 0 first (min last 255)
      → IsPartOf settings first last table patch
  upper_half : table.level ≡ top_level settings → 256 ≤ last → patch ≡ patch_at table (upper_prefix settings) (max first 256) last
      → IsPartOf settings first last table patch

-- one of the tables is of the frame, at a higher level, and its entry that serves the table is among the slots
pub record IsCovered (settings : Settings) (first last frame : ℕ) (tables : List TableUse) (table : TableUse) : Type 0 where
  pub upper : TableUse
  pub is_in : IsIn upper tables
  pub is_frame : upper.frame ≡ frame
  pub higher : table.level < upper.level
  pub serves : IsServedBy settings upper table.prefix
  pub from : first ≤ index upper.level table.prefix
  pub to : index upper.level table.prefix ≤ last

-- each begins where the one before it does, or after
abbrev pub AreSorted : List Patch → Type 0
AreSorted [] = Unit {0}
AreSorted (one ∷ []) = Unit {0}
AreSorted (one ∷ two ∷ rest) = (low_of one ≤ low_of two) × AreSorted (two ∷ rest)

-- the parts of those tables of the frame that aren't covered, each once, by ascending address
pub record ArePlanned (settings : Settings) (first last frame : ℕ) (tables : List TableUse) (patches : List Patch)
    : Type 0 where
  pub sorted : AreSorted patches
  pub distinct : AreDistinct patches
  pub each : (patch : Patch) → IsIn patch patches
      → (table : TableUse) × IsIn table tables × (table.frame ≡ frame)
      × (IsCovered settings first last frame tables table → ⊥) × IsPartOf settings first last table patch
  pub all : (table : TableUse) (patch : Patch) → IsIn table tables → table.frame ≡ frame
      → (IsCovered settings first last frame tables table → ⊥) → IsPartOf settings first last table patch → IsIn patch patches
