-- What is walked again of a space after a write: the entries that the walks of its addresses read first of all written
-- ones. SDM 3A, "4-Level Paging and 5-Level Paging": what a walk reads depends on the entries above alone.
use Rattle.std.specs.Prelude.{◌≡◌, ℕ, true, ◌+◌, ◌%◌, ◌^◌, ◌<◌, ◌≤◌, ◌⊎◌, Bool, IsTrue, List, [], ◌∷◌, ◌++◌, Option}
use Rattle.paging_model.specs.Counting.{IsIn, AreDistinct}
use Rattle.paging_model.specs.Memory.{Memory}
use Rattle.paging_model.specs.LinearAddress.{is_canonical}
use Rattle.paging_model.specs.TableUses.{Leaf}
use Rattle.paging_model.specs.Translations.{Target, Protection, raw_target_of}
use Rattle.paging_model.specs.Walking.{entry_address, walk_from}
use Rattle.paging_model.specs.declared.registers.Settings.{Settings}
use Rattle.paging_model.specs.declared.spaces.TableUse.{TableUse}
use Rattle.paging_laws.specs.ReachedSlots.{AreReached}
use Rattle.paging_laws.specs.SpaceParts.{slot_prefix, uses_in, leaves_in}
use Rattle.kept_laws.specs.WrittenPlaces.{ReadsNoneAbove, ReadsOne}
use Rattle.kept_laws.specs.declared.patches.Patch.{Patch}

-- the addresses of a patch: from its first one up to this
abbrev pub low_of : Patch → ℕ
low_of patch = slot_prefix patch.table.level patch.table.prefix patch.from

abbrev pub high_of : Patch → ℕ
high_of patch = slot_prefix patch.table.level patch.table.prefix (patch.from + patch.count)

-- one of the patches has the address
pub record IsPatched (patches : List Patch) (x : ℕ) : Type 0 where
  pub patch : Patch
  pub is_in : IsIn patch patches
  pub low : low_of patch ≤ x
  pub high : x < high_of patch

-- the walk of each address of a patch comes to the patch's table, and the entry that it reads there is the first written
-- one
pub record IsPatch (memory : Memory) (written : ℕ → Bool) (settings : Settings) (root : ℕ) (patch : Patch) : Type 0 where
  pub some : 1 ≤ patch.count
  pub reached : AreReached memory settings root patch.table.level patch.table.frame patch.table.prefix patch.table.bits
      patch.from patch.count
  pub is_written : (x : ℕ) → low_of patch ≤ x → x < high_of patch
      → written (entry_address patch.table.level x patch.table.frame) ≡ true
  pub none_above : (x : ℕ) → low_of patch ≤ x → x < high_of patch
      → ReadsNoneAbove memory written settings root x patch.table.level

-- each ends before the next begins
abbrev pub AreSeparate : List Patch → Type 0
AreSeparate [] = Unit {0}
AreSeparate (one ∷ []) = Unit {0}
AreSeparate (one ∷ two ∷ rest) = (high_of one ≤ low_of two) × AreSeparate (two ∷ rest)

-- patches that have exactly the canonical addresses whose walks read a written entry
pub record ArePatches (memory : Memory) (written : ℕ → Bool) (settings : Settings) (root : ℕ) (patches : List Patch)
    : Type 0 where
  pub each : (patch : Patch) → IsIn patch patches → IsPatch memory written settings root patch
  pub all : (x : ℕ) → x < 2 ^ 64 → IsTrue (is_canonical settings.la57 x)
      → ReadsOne memory written settings root x → IsPatched patches x
  pub ascending : AreSeparate patches

-- the tables that are found from the entries of a patch, and of all patches
abbrev pub uses_in_patch : Memory → Settings → Patch → List TableUse
uses_in_patch memory settings patch =
    uses_in memory settings patch.table.level patch.table.frame patch.table.prefix patch.table.bits patch.from patch.count

abbrev pub uses_in_patches : Memory → Settings → List Patch → List TableUse
uses_in_patches memory settings [] = []
uses_in_patches memory settings (patch ∷ rest) = uses_in_patch memory settings patch ++ uses_in_patches memory settings rest

-- the pages that are found there
abbrev pub leaves_in_patch : Memory → Settings → Patch → List Leaf
leaves_in_patch memory settings patch =
    leaves_in memory settings patch.table.level patch.table.frame patch.table.prefix patch.table.bits patch.from patch.count

abbrev pub leaves_in_patches : Memory → Settings → List Patch → List Leaf
leaves_in_patches memory settings [] = []
leaves_in_patches memory settings (patch ∷ rest) = leaves_in_patch memory settings patch ++ leaves_in_patches memory settings rest

-- how many entries patches have
abbrev pub entries_of : List Patch → ℕ
entries_of [] = 0
entries_of (patch ∷ rest) = patch.count + entries_of rest

-- a use beneath a patch: by the level, and by where it begins
pub record IsBeneath (patch : Patch) (table : TableUse) : Type 0 where
  pub lower : table.level < patch.table.level
  pub low : low_of patch ≤ table.prefix
  pub high : table.prefix < high_of patch

pub record IsBeneathOne (patches : List Patch) (table : TableUse) : Type 0 where
  pub patch : Patch
  pub is_in : IsIn patch patches
  pub beneath : IsBeneath patch table

-- what is left of all uses without those beneath the patches
pub record AreUsesLeft (patches : List Patch) (all left : List TableUse) : Type 0 where
  pub distinct : AreDistinct left
  pub were : (table : TableUse) → IsIn table left → IsIn table all
  pub none : (table : TableUse) → IsIn table left → IsBeneathOne patches table → ⊥
  pub others : (table : TableUse) → IsIn table all → (IsIn table left ⊎ IsBeneathOne patches table)

-- in each patch a page is mapped by the walk from the patch's table, and outside all patches as before
pub record IsPatchedMap (memory : Memory) (settings : Settings) (patches : List Patch)
    (old new : ℕ → Option (Target Protection)) : Type 0 where
  pub inside : (patch : Patch) → IsIn patch patches → (page : ℕ) → page % 4096 ≡ 0 → low_of patch ≤ page → page < high_of patch
      → new page ≡ raw_target_of (walk_from memory settings patch.table.level page patch.table.frame patch.table.bits)
  pub outside : (x : ℕ) → (IsPatched patches x → ⊥) → new x ≡ old x
