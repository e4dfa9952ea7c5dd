-- How the patches of a frame are found: use by use, and sorted by where they begin.
use Rattle.std.specs.Prelude.{◌≡◌, ℕ, ◌+◌, ◌*◌, ◌%◌, ◌^◌, ◌&&◌, List, ◌++◌, nat_le, if◌then◌else◌}
use Rattle.paging_model.specs.Counting.{IsIn}
use Rattle.paging_model.specs.LinearAddress.{span}
use Rattle.paging_model.specs.declared.registers.Settings.{Settings}
use Rattle.paging_model.specs.declared.spaces.TableUse.{TableUse}
use Rattle.kept_laws.specs.declared.patches.Patch.{Patch}
use Rattle.plan_laws.specs.Plans.{IsCovered, IsPartOf}
use Rattle.space_map.specs.PatchWalks.{AreOfOwnUses}

-- a use is covered by a table of a level
pub record IsCoveredAt (settings : Settings) (first last frame : ℕ) (tables : List TableUse) (table : TableUse) (level : ℕ) : Type 0 where
  pub covered : IsCovered settings first last frame tables table
  pub at : covered.upper.level ≡ level

-- the patch is one of a use of the frame that isn't covered
pub record IsPatchOf (settings : Settings) (first last frame : ℕ) (tables : List TableUse) (table : TableUse) (patch : Patch) : Type 0 where
  pub is_frame : table.frame ≡ frame
  pub free : IsCovered settings first last frame tables table → ⊥
  pub part : IsPartOf settings first last table patch

-- those of some uses, each once
pub record ArePatchesOf (settings : Settings) (first last frame : ℕ) (tables uses : List TableUse) (patches : List Patch) : Type 0 where
  pub each : (patch : Patch) → IsIn patch patches
      → (table : TableUse) × IsIn table uses × IsPatchOf settings first last frame tables table patch
  pub all : (table : TableUse) (patch : Patch) → IsIn table uses → IsPatchOf settings first last frame tables table patch
      → IsIn patch patches
  pub own : AreOfOwnUses patches

-- after the patches that were there stand exactly those with a property, at places of their own
pub record ArePushed (Has : Patch → Type 0) (old new : List Patch) : Type 0 where
  pub parts : List Patch
  pub is : new ≡ old ++ parts
  pub each : (patch : Patch) → IsIn patch parts → Has patch
  pub all : (patch : Patch) → Has patch → IsIn patch parts
  pub own : AreOfOwnUses parts

-- where a patch begins, for any patch at all: a sum that wraps, or 0 where there is no such level
abbrev pub start_key : Patch → ℕ
start_key patch =
    if (nat_le 1 patch.table.level && nat_le patch.table.level 5)
    then ((patch.table.prefix + patch.from * span patch.table.level % 2 ^ 64) % 2 ^ 64)
    else 0
