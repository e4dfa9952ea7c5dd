-- What a processor makes of an entry at a time, what the event that led to a time took, and from which roots on.
-- Our own words, over SDM 3A, "Caching Translation Information".
use Rattle.std.specs.Prelude.{◌≡◌, ℕ, ◌≤◌, ◌==◌, ◌&&◌, Bool, Option, Some, None, nat_le, if◌then◌else◌}
use Rattle.paging_model.specs.Memory.{Memory}
use Rattle.paging_model.specs.Registers.{pcid_of, root_of, settings_of}
use Rattle.paging_model.specs.Entries.{root_bits}
use Rattle.paging_model.specs.Walking.{top_level}
use Rattle.paging_model.specs.declared.entries.Bits.{Bits}
use Rattle.paging_model.specs.declared.registers.Machine.{Machine}
use Rattle.paging_model.specs.declared.registers.Regs.{Regs}
use Rattle.history_model.specs.History.{History, memory, machine, regs, time}
use Rattle.history_model.specs.Horizons.{horizon}
use Rattle.history_model.specs.CachedTranslations.{Held, fill_of, cache_key}
use Rattle.history_laws.specs.MomentsByTime.{moment_at, taken_at}
use Rattle.audit_laws.specs.Leads.{Leads}

-- at a time from its horizon on, processor p is in PCID c, with these registers
pub record IsInPcid (history : History) (p c t : ℕ) (known : Regs) : Type 0 where
  pub recent : horizon history p ≤ t
  pub within : t ≤ time history
  pub is_known : regs (moment_at history t) p ≡ Some known
  pub current : c ≡ pcid_of known

-- at such a time, the root's table has this level and frame
pub record IsRootAt (history : History) (p c level table t : ℕ) : Type 0 where
  pub known : Regs
  pub is_in : IsInPcid history p c t known
  pub top : level ≡ top_level (settings_of known (machine history))
  pub root : table ≡ root_of known (machine history)

-- what a processor makes of an entry where it is in PCID c
abbrev pub fill_in : ℕ → Memory → Machine → Option Regs → ℕ → ℕ → ℕ → Bits → Option Held
fill_in c memory machine None level x table above = None
fill_in c memory machine (Some known) level x table above =
    if pcid_of known == c then fill_of memory machine known level x table above else None

-- what processor p made under PCID c at a time of a table's entry that serves x; nothing before its horizon
abbrev pub made_at : History → ℕ → ℕ → ℕ → ℕ → Bits → ℕ → ℕ → Option Held
made_at history p c level table above x t =
    if nat_le (horizon history p) t && nat_le t (time history)
    then fill_in c (memory (moment_at history t)) (machine history) (regs (moment_at history t) p) level x table above
    else None

-- whether the event that led to a time took from p what it held under c of a level for x
abbrev pub entry_taken_at : History → ℕ → ℕ → ℕ → ℕ → Held → ℕ → Bool
entry_taken_at history p c level x held t = taken_at history p (cache_key c level x held) t

-- a translation of x that a table in use at some times leads to, by what p made under c and by what was taken of that
abbrev pub LeadsUnder : History → ℕ → ℕ → ℕ → (ℕ → Type 0) → ℕ → ℕ → Bits → ℕ → Held → Type 0
LeadsUnder history p c = Leads (made_at history p c) (entry_taken_at history p c) (time history)

-- one of the roots that p had under c leads to it
pub record IsLedTo (history : History) (p c level x : ℕ) (held : Held) : Type 0 where
  pub top : ℕ
  pub root : ℕ
  pub leads : LeadsUnder history p c x (IsRootAt history p c top root) top root root_bits level held
