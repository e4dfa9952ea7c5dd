-- Which ranges the tables of an index serve. SDM 3A, "4-Level Paging and 5-Level Paging": the top table serves the whole
-- space, and a lower one the range of the entry that references it.
use Rattle.std.specs.Prelude.{◌≡◌, ℕ, ◌+◌, ◌%◌, ◌^◌, ◌<◌, ◌≤◌, List}
use Rattle.paging_model.specs.Counting.{IsIn}
use Rattle.paging_model.specs.LinearAddress.{span}
use Rattle.paging_model.specs.Walking.{top_level}
use Rattle.paging_model.specs.declared.registers.Settings.{Settings}
use Rattle.frame_index.specs.declared.counted_use.CountedUse.{CountedUse}

-- the level and the prefix of a table of a space, but for whether the prefix is canonical
abbrev pub IsServing : Settings → ℕ → ℕ → Type 0
IsServing settings level prefix =
    (1 ≤ level) × (level ≤ top_level settings)
    × (level ≡ top_level settings → prefix ≡ 0)
    × (level < top_level settings → (prefix < 2 ^ 64) × (prefix % span (level + 1) ≡ 0))

-- those of each table of an index
abbrev pub AreServing : Settings → List CountedUse → Type 0
AreServing settings index = (one : CountedUse) → IsIn one index → IsServing settings one.table.level one.table.prefix
