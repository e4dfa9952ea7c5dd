-- What the entries of a patch map and reference. SDM 3A, "4-Level Paging and 5-Level Paging": an entry maps a page, or
-- references a table of the level below, which serves the entry's range.
use Rattle.std.specs.Prelude.{◌≡◌, ℕ, ◌+◌, ◌<◌, List, Option}
use Rattle.paging_model.specs.Counting.{IsIn}
use Rattle.paging_model.specs.LinearAddress.{IsPage}
use Rattle.paging_model.specs.Memory.{Memory}
use Rattle.paging_model.specs.Translations.{Target, Protection, raw_target}
use Rattle.paging_model.specs.Walking.{top_level}
use Rattle.paging_model.specs.declared.registers.Settings.{Settings}
use Rattle.paging_model.specs.declared.spaces.TableUse.{TableUse}
use Rattle.paging_laws.specs.SpaceParts.{slot_prefix}
use Rattle.kept_laws.specs.declared.patches.Patch.{Patch}

-- each page has what the tables map it to
abbrev pub IsMapOf : Memory → Settings → ℕ → (ℕ → Option (Target Protection)) → Type 0
IsMapOf memory settings root target = (page : ℕ) → IsPage settings.la57 page → target page ≡ raw_target memory settings root page

-- the use has the place of the table that entry i of a patch may reference
pub record IsBelowEntry (patch : Patch) (i : ℕ) (table : TableUse) : Type 0 where
  pub level : table.level + 1 ≡ patch.table.level
  pub prefix : table.prefix ≡ slot_prefix patch.table.level patch.table.prefix i

-- no two patches are of one use of a table below the top one
abbrev pub HaveOwnTables : Settings → List Patch → Type 0
HaveOwnTables settings patches =
    (one other : Patch) → IsIn one patches → IsIn other patches → one.table.level < top_level settings
    → one.table.level ≡ other.table.level → one.table.prefix ≡ other.table.prefix → one ≡ other
