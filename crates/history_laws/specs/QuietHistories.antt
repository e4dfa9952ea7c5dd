-- Histories in which neither memory nor a register changes, and what the present tables make of what is held.
use Rattle.std.specs.Prelude.{◌≡◌, ℕ, ◌&&◌, Bool, true, false, Some}
use Rattle.paging_model.specs.Registers.{pge, root_of, settings_of}
use Rattle.paging_model.specs.Translations.{present_target}
use Rattle.paging_model.specs.Walking.{own_frame, walk}
use Rattle.paging_model.specs.declared.registers.Regs.{Regs}
use Rattle.paging_model.specs.declared.walks.Walk.{Walk}
use Rattle.paging_model.specs.declared.walks.Walk.TheVariants.{Mapped}
use Rattle.history_model.specs.History.{History, begun, next, memory, machine}
use Rattle.history_model.specs.CachedTranslations.{Held}
use Rattle.history_model.specs.StaleTranslations.{held_target}
use Rattle.history_model.specs.declared.events.Event.{Event}
use Rattle.history_model.specs.declared.events.Event.TheVariants as event

-- the event changes neither memory nor a register
abbrev pub is_quiet : Event → Bool
is_quiet (event.Write at bytes) = false
is_quiet (event.Set cpu change) = false
is_quiet _ = true

-- no event so far changed memory or a register; invalidations and questions may have happened
abbrev pub IsQuiet : History → Type 0
IsQuiet (begun start) = Unit {0}
IsQuiet (next before happened) = (is_quiet happened ≡ true) × IsQuiet before

-- the walk ends at the page of a held translation, with its bits and its key; it is held as global where the entry has G
-- and CR4.PGE is 1
pub record IsPageOf (pages_are_global : Bool) (level x : ℕ) (held : Held) (walked : Walk) : Type 0 where
  pub global : Bool
  pub is_global : held.global ≡ (global && pages_are_global)
  pub is_page : walked ≡ Mapped (record {
    frame = own_frame level x held.frame;
    level = level;
    bits = held.bits;
    key = held.key;
    global = global;
  })

-- the present tables and registers translate a page as a held translation does
pub record IsPresent (history : History) (known : Regs) (level page : ℕ) (held : Held) : Type 0 where
  pub walked : IsPageOf (pge known) level page held
      (walk (memory history) (settings_of known (machine history)) (root_of known (machine history)) page)
  pub translated : present_target (memory history) (machine history) known (root_of known (machine history)) page
      ≡ Some (held_target known level page held)
