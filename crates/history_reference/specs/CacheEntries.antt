-- What a processor holds of an entry, with the entry's level.
use Rattle.std.specs.Prelude.{ℕ, ◌<◌, ◌≤◌}
use Rattle.paging_model.specs.Entries.{IsFrame}
use Rattle.history_model.specs.CachedTranslations.{Held}

pub record HeldEntry : Type 0 where
  pub level : ℕ
  pub held : Held

abbrev pub entry_of_level : ℕ → Held → HeldEntry
entry_of_level level held = record { level = level; held = held }

-- the level of an entry that is held, and the frame and the key that it may have
pub record IsCacheable (level frame key : ℕ) : Type 0 where
  pub least : 1 ≤ level
  pub most : level ≤ 5
  pub of_frame : IsFrame frame
  pub of_key : key < 16
