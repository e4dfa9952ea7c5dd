-- What a processor holds of an entry that it reads.
-- SDM 3A, "Caching Translation Information".
use Rattle.std.specs.Prelude.{◌≡◌, ℕ, ◌<◌, ◌≤◌, true, false}
use Rattle.paging_model.specs.Entries.{IsFrame}
use Rattle.history_model.specs.CachedTranslations.{Held}
use Rattle.entry_decode.specs.Levels.{IsFrameOfLevel}
use Rattle.past_entries.specs.declared.fills.Fill.{Fill}

-- the same as the model has it
abbrev pub held_of_fill : Fill → Held
held_of_fill fill =
    record { leaf = fill.leaf; frame = fill.frame; bits = fill.bits; key = fill.key; global = fill.global }

-- an entry of the level may map such a page, or reference such a table
pub record FitsLevel (level : ℕ) (fill : Fill) : Type 0 where
  pub page : fill.leaf ≡ true → IsFrameOfLevel level fill.frame × (fill.key < 16)
  pub table : fill.leaf ≡ false → (2 ≤ level) × IsFrame fill.frame
