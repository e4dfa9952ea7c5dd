-- The walk of what a write may have changed, one patch after another, and what is kept of the tables beside it.
-- SDM 3A, "4-Level Paging and 5-Level Paging".
use Rattle.std.specs.Prelude.{◌≡◌, ℕ, ◌+◌, ◌%◌, ◌^◌, ◌<◌, ◌≤◌, ◌⊎◌, List, [], ◌∷◌, length, map, None}
use Rattle.paging_model.specs.Counting.{IsIn}
use Rattle.paging_model.specs.Memory.{Memory}
use Rattle.paging_model.specs.declared.registers.Settings.{Settings}
use Rattle.paging_model.specs.declared.spaces.TableUse.{TableUse}
use Rattle.frame_index.specs.declared.counted_use.CountedUse.{CountedUse}
use Rattle.kept_laws.specs.PageNumbers.{pages_in_patch}
use Rattle.kept_laws.specs.Patches.{IsBeneath, IsPatched, high_of, leaves_in_patch, low_of, uses_in_patch, uses_in_patches, leaves_in_patches}
use Rattle.kept_laws.specs.declared.patches.Patch.{Patch}
use Rattle.region_map.specs.Coalesced.{target_at}
use Rattle.space_map.specs.MappedRanges.{Mapping}
use Rattle.space_map.specs.WalkedIndexes.{IndexesSlots, IsFresh, IsJoined}
use Rattle.space_map.specs.Walks.{IsWalkable, target_from}
use Rattle.space_map.specs.declared.partial.PartialSpace.{PartialSpace}

-- a patch that can be walked, whatever memory holds
pub record IsShaped (patch : Patch) : Type 0 where
  pub walkable : IsWalkable patch.table
  pub some : 1 ≤ patch.count
  pub slots : patch.from + patch.count ≤ 512

-- each of a list is one
abbrev pub AreShaped : List Patch → Type 0
AreShaped patches = (patch : Patch) → IsIn patch patches → IsShaped patch

-- the use is at the patch's level and prefix
abbrev pub IsOfPatch : Patch → TableUse → Type 0
IsOfPatch patch table = (patch.table.level ≡ table.level) × (patch.table.prefix ≡ table.prefix)

-- the tables of an index
abbrev pub index_tables : List CountedUse → List TableUse
index_tables index = map (λ (one : CountedUse). one.table) index

-- no table of an index is of level 0
abbrev pub HaveLevels : List CountedUse → Type 0
HaveLevels index = (one : CountedUse) → IsIn one index → 1 ≤ one.table.level

-- the uses of an index that aren't beneath a patch
pub record AreLeft (patches : List Patch) (all left : List CountedUse) : Type 0 where
  pub were : (one : CountedUse) → IsIn one left → IsIn one all
  pub none : (one : CountedUse) → IsIn one left → (patch : Patch) → IsIn patch patches → IsBeneath patch one.table → ⊥
  pub others : (one : CountedUse) → IsIn one all
      → (IsIn one left ⊎ ((patch : Patch) × IsIn patch patches × IsBeneath patch one.table))

-- no use beneath a patch is in the index
abbrev pub AreFresh : List Patch → List CountedUse → Type 0
AreFresh patches index =
    (patch : Patch) → IsIn patch patches → IsFresh patch.table.level (low_of patch) (high_of patch) index

-- where patches begin
abbrev pub patches_start : List Patch → ℕ
patches_start [] = 0
patches_start (one ∷ rest) = low_of one

-- where they end, which begin here
abbrev pub patches_end : ℕ → List Patch → ℕ
patches_end start [] = start
patches_end start (one ∷ rest) = patches_end (high_of one) rest

-- what another map has up to a patch is copied, and the patch is walked; so many of its entries map a page
pub record IsPatchWalked (memory : Memory) (settings : Settings) (patch : Patch) (next : ℕ) (other : Mapping)
    (old new : PartialSpace) (pages : ℕ) : Type 0 where
  pub before : (x : ℕ) → next ≤ x → x < low_of patch → target_at new.regions x ≡ other x
  pub inside : (page : ℕ) → page % 4096 ≡ 0 → low_of patch ≤ page → page < high_of patch
      → target_at new.regions page ≡ target_from memory settings patch.table.level patch.table.frame patch.table.bits page
  pub outside : (x : ℕ) → ((x < next) ⊎ (high_of patch ≤ x)) → target_at new.regions x ≡ target_at old.regions x
  pub uses : new.uses ≡ old.uses + length (uses_in_patch memory settings patch)
  pub leaves : new.leaves ≡ old.leaves + length (leaves_in_patch memory settings patch)
  pub index : IndexesSlots memory settings patch.table patch.from patch.count old new pages

-- from one address up to another the patches are walked, and what lies between them is as in another map; all else is
-- unmapped
pub record ArePatchesWalked (memory : Memory) (settings : Settings) (patches : List Patch) (first next : ℕ) (other : Mapping)
    (old new : PartialSpace) (pages : List ℕ) : Type 0 where
  pub inside : (patch : Patch) → IsIn patch patches → (page : ℕ) → page % 4096 ≡ 0 → low_of patch ≤ page → page < high_of patch
      → target_at new.regions page ≡ target_from memory settings patch.table.level patch.table.frame patch.table.bits page
  pub between : (x : ℕ) → first ≤ x → x < next → (IsPatched patches x → ⊥) → target_at new.regions x ≡ other x
  pub outside : (x : ℕ) → ((x < first) ⊎ (next ≤ x)) → target_at new.regions x ≡ None
  pub uses : new.uses ≡ old.uses + length (uses_in_patches memory settings patches)
  pub leaves : new.leaves ≡ old.leaves + length (leaves_in_patches memory settings patches)
  pub joined : IsJoined memory settings (uses_in_patches memory settings patches) old.index new.index
  pub pages_are : pages ≡ map (λ (patch : Patch). pages_in_patch memory settings patch) patches

-- the table is the patch's own, at its place
abbrev pub IsTableOf : Patch → TableUse → Type 0
IsTableOf patch table = IsOfPatch patch table × (table.frame ≡ patch.table.frame)

-- the patch's table has one number of pages and then another, as its entries in the patch have
pub record IsChange (was is : TableUse → ℕ) (patch : Patch) (before after : ℕ) : Type 0 where
  pub same : (table : TableUse) → IsTableOf patch table → is table + before ≡ was table + after
  pub least : (table : TableUse) → IsTableOf patch table → before ≤ was table
  pub most : (table : TableUse) → IsTableOf patch table → is table < 2 ^ 16

-- the uses at the places of patches are of the patches' tables
abbrev pub AreFramed : List Patch → List CountedUse → Type 0
AreFramed patches index =
    (patch : Patch) → IsIn patch patches → (one : CountedUse) → IsIn one index → IsOfPatch patch one.table
    → one.table.frame ≡ patch.table.frame

-- each patch of a list has such numbers
abbrev pub AreNumberChanges : (was is : TableUse → ℕ) → List Patch → (before after : List ℕ) → Type 0
AreNumberChanges was is [] before after = Unit {0}
AreNumberChanges was is (patch ∷ rest) (one ∷ before) (other ∷ after) =
    IsChange was is patch one other × AreNumberChanges was is rest before after
AreNumberChanges was is (patch ∷ rest) _ _ = ⊥

-- the use at a patch's place has its new number, where it had its old one; all others are as before
pub record IsChanged (was is : TableUse → ℕ) (patch : Patch) (old new : List CountedUse) : Type 0 where
  pub each : (one : CountedUse) → IsIn one new
      → ((IsIn one old × (IsOfPatch patch one.table → ⊥))
      ⊎ ((before : CountedUse) × IsIn before old × (before.table ≡ one.table) × IsOfPatch patch one.table
      × (before.pages ≡ was before.table → one.pages ≡ is one.table)))

-- no two patches are of one use
abbrev pub AreOfOwnUses : List Patch → Type 0
AreOfOwnUses [] = Unit {0}
AreOfOwnUses (one ∷ rest) =
    ((patch : Patch) → IsIn patch rest → patch.table.level ≡ one.table.level → patch.table.prefix ≡ one.table.prefix → ⊥)
    × AreOfOwnUses rest

-- the uses of patches have their old numbers, and all others their new ones
pub record AreNumbered (was is : TableUse → ℕ) (patches : List Patch) (index : List CountedUse) : Type 0 where
  pub waiting : (one : CountedUse) → IsIn one index → (patch : Patch) → IsIn patch patches → IsOfPatch patch one.table
      → one.pages ≡ was one.table
  pub settled : (one : CountedUse) → IsIn one index → ((patch : Patch) → IsIn patch patches → IsOfPatch patch one.table → ⊥)
      → one.pages ≡ is one.table

-- the same tables are in both lists
pub record HaveSameTables (old new : List CountedUse) : Type 0 where
  pub were : (one : CountedUse) → IsIn one new → ((was : CountedUse) × IsIn was old × (was.table ≡ one.table))
  pub stay : (one : CountedUse) → IsIn one old → ((now : CountedUse) × IsIn now new × (now.table ≡ one.table))
