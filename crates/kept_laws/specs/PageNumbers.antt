-- How many entries of a table map a page, of any size. SDM 3A, "4-Level Paging and 5-Level Paging".
use Rattle.std.specs.Prelude.{ℕ, zero, suc, ◌+◌, List, [], ◌∷◌, Option, Some, None}
use Rattle.paging_model.specs.Memory.{Memory}
use Rattle.paging_model.specs.declared.registers.Settings.{Settings}
use Rattle.paging_model.specs.declared.entries.Entry.{Entry}
use Rattle.paging_model.specs.declared.entries.Entry.TheVariants as entry
use Rattle.paging_model.specs.declared.spaces.TableUse.{TableUse}
use Rattle.paging_laws.specs.SpaceParts.{slot_read}
use Rattle.kept_laws.specs.declared.patches.Patch.{Patch}

-- 1 where an entry maps a page
abbrev pub pages_of_entry : Option Entry → ℕ
pages_of_entry None = 0
pages_of_entry (Some entry.Absent) = 0
pages_of_entry (Some entry.Reserved) = 0
pages_of_entry (Some (entry.Table frame bits)) = 0
pages_of_entry (Some (entry.Leaf frame bits key global)) = 1

-- how many of so many entries of a table of a level do, from one on
unfoldable pub pages_in : Memory → Settings → ℕ → ℕ → ℕ → ℕ → ℕ
pages_in memory settings level table from zero = 0
pages_in memory settings level table from (suc n) =
    pages_in memory settings level table from n + pages_of_entry (slot_read memory settings level table (from + n))

-- how many of all 512 entries do, as a use has them
abbrev pub page_number : Memory → Settings → TableUse → ℕ
page_number memory settings table = pages_in memory settings table.level table.frame 0 512

-- of several uses together
abbrev pub page_numbers : Memory → Settings → List TableUse → ℕ
page_numbers memory settings [] = 0
page_numbers memory settings (one ∷ rest) = page_number memory settings one + page_numbers memory settings rest

-- how many entries of a patch do, and of all patches
abbrev pub pages_in_patch : Memory → Settings → Patch → ℕ
pages_in_patch memory settings patch =
    pages_in memory settings patch.table.level patch.table.frame patch.from patch.count

abbrev pub pages_in_patches : Memory → Settings → List Patch → ℕ
pages_in_patches memory settings [] = 0
pages_in_patches memory settings (patch ∷ rest) = pages_in_patch memory settings patch + pages_in_patches memory settings rest
