-- What is held, by the moment at which it was made.
use Rattle.std.specs.Prelude.{◌≡◌, ℕ, suc, ◌⊎◌, false, Some}
use Rattle.paging_model.specs.Registers.{pcid_of, root_of, settings_of}
use Rattle.paging_model.specs.Entries.{root_bits}
use Rattle.paging_model.specs.Walking.{top_level}
use Rattle.paging_model.specs.declared.registers.Regs.{Regs}
use Rattle.history_model.specs.History.{History, next, memory, machine, regs}
use Rattle.history_model.specs.Invalidations.{kills}
use Rattle.history_model.specs.CachedTranslations.{Held, MayHold, fill_of, cache_key}
use Rattle.history_model.specs.declared.caches.CacheKey.{CacheKey}
use Rattle.history_model.specs.declared.events.Event.{Event}

-- made at a moment, under the current PCID, from the entry of the top table
pub record IsMadeAtRoot (moment : History) (p c level x : ℕ) (held : Held) : Type 0 where
  pub known : Regs
  pub is_known : regs moment p ≡ Some known
  pub current : c ≡ pcid_of known
  pub top : level ≡ top_level (settings_of known (machine moment))
  pub is_made : fill_of (memory moment) (machine moment) known level x (root_of known (machine moment)) root_bits
      ≡ Some held

-- made at a moment, under the current PCID, from the entry of a table that an entry references which was held then
pub record IsMadeBelow (moment : History) (p c level x : ℕ) (held : Held) : Type 0 where
  pub known : Regs
  pub is_known : regs moment p ≡ Some known
  pub current : c ≡ pcid_of known
  pub above : Held
  pub above_held : MayHold moment p c (suc level) x above
  pub references : above.leaf ≡ false
  pub is_made : fill_of (memory moment) (machine moment) known level x above.frame above.bits ≡ Some held

-- made at a moment, from what stands in memory then
abbrev pub IsMade : History → ℕ → ℕ → ℕ → ℕ → Held → Type 0
IsMade moment p c level x held = IsMadeAtRoot moment p c level x held ⊎ IsMadeBelow moment p c level x held

-- no event since a moment removes what has this key from processor p, by p's registers before that event
pub data Spares (moment : History) (p : ℕ) (key : CacheKey) : History → Type 0 where
  here : Spares moment p key moment
  later : {history : History} {known : Regs} (happened : Event)
      → Spares moment p key history
      → regs history p ≡ Some known
      → kills happened p known key ≡ false
      → Spares moment p key (next history happened)

-- made at a moment since which nothing removed it
pub record HeldSince (history : History) (p c level x : ℕ) (held : Held) : Type 0 where
  pub moment : History
  pub was_made : IsMade moment p c level x held
  pub spared : Spares moment p (cache_key c level x held) history
