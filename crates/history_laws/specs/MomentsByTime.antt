-- The moments of a history by their times, and what the event that led to one took from a processor.
use Rattle.std.specs.Prelude.{◌≡◌, ℕ, ◌+◌, ◌<◌, ◌≤◌, ◌==◌, Bool, false, Option, Some, None, nat_le, if◌then◌else◌}
use Rattle.paging_model.specs.declared.registers.Regs.{Regs}
use Rattle.history_model.specs.History.{History, begun, next, regs, time}
use Rattle.history_model.specs.Invalidations.{kills}
use Rattle.history_model.specs.declared.caches.CacheKey.{CacheKey}
use Rattle.history_model.specs.declared.events.Event.{Event}

-- the moment after so many events; the last one where there are fewer
abbrev pub moment_at : History → ℕ → History
moment_at (begun start) t = begun start
moment_at (next before happened) t = if nat_le t (time before) then moment_at before t else next before happened

-- whether an event takes from a processor what has a key, by the processor's registers before it
abbrev pub takes : Event → ℕ → Option Regs → CacheKey → Bool
takes happened p None key = false
takes happened p (Some known) key = kills happened p known key

-- whether the event that led to a time took from processor p what has a key; nothing led to time 0
abbrev pub taken_at : History → ℕ → CacheKey → ℕ → Bool
taken_at (begun start) p key t = false
taken_at (next before happened) p key t =
    if t == time before + 1 then takes happened p (regs before p) key else taken_at before p key t

-- no event after a time, up to another, took what has a key
pub record IsSpared (history : History) (p : ℕ) (key : CacheKey) (t u : ℕ) : Type 0 where
  pub each : (v : ℕ) → t < v → v ≤ u → taken_at history p key v ≡ false
