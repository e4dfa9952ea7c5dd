-- What an audit of one processor goes by, for what the processor may hold under one PCID. Our own words, over SDM 3A,
-- "Caching Translation Information".
use Rattle.std.specs.Prelude.{◌≡◌, ℕ, ◌+◌, ◌<◌, ◌≤◌, ◌%◌, ◌&&◌, not, Bool, true, false, if◌then◌else◌, List, Option, Some, None}
use Rattle.paging_model.specs.LinearAddress.{span}
use Rattle.paging_model.specs.Memory.{entry_at}
use Rattle.paging_model.specs.Entries.{entry_of}
use Rattle.paging_model.specs.Registers.{pge}
use Rattle.paging_model.specs.Translations.{Target, granted_target, raw_target}
use Rattle.paging_model.specs.Walking.{entry_address}
use Rattle.paging_model.specs.declared.entries.Bits.{Bits}
use Rattle.paging_model.specs.declared.registers.Settings.{Settings}
use Rattle.history_model.specs.CachedTranslations.{Held, cache_key, frame_at, held_of}
use Rattle.history_model.specs.StaleTranslations.{Exceeds, excess_over, held_target}
use Rattle.audit_laws.specs.declared.stale_pages.StalePage.{StalePage}
use Rattle.cache_rules.specs.Hosts.{Keeping}
use Rattle.cache_rules.specs.Removals.{removed_in}
use Rattle.phys_view.specs.Seen.{Seen, memory_of}
use Rattle.present_pages.specs.PresentRanges.{maps}
use Rattle.present_pages.specs.declared.ranges.PresentRange.{PresentRange}
use Rattle.time_sets.specs.Sets.{has_time}
use Rattle.version_store.specs.Changes.{KeptChanges, value_at}

-- the present memory, its kept changes, and a processor with its settings; the present root that justifies translations;
-- the PCID under which they are held, and whether global ones alone count; now; and the times from the processor's horizon
-- on at which it was in that PCID with NXE 0, and with NXE 1
pub record Facts : Type 0 where
  pub seen : Seen
  pub kept : KeptChanges
  pub host : Keeping
  pub settings : Settings
  pub home : ℕ
  pub under : ℕ
  pub only_global : Bool
  pub end : ℕ
  pub nxe_clear : List (ℕ × ℕ)
  pub nxe_set : List (ℕ × ℕ)

-- the settings, with NXE as given
abbrev pub settings_with : Bool → Settings → Settings
settings_with nxe settings = record settings { nxe = nxe }

-- what the processor makes of a slot at a time, with NXE as given, by the slot's present value
abbrev pub made_of_value : Facts → Bool → ℕ → ℕ → Bits → ℕ → Option ℕ → Option Held
made_of_value facts nxe level address above t None = None
made_of_value facts nxe level address above t (Some present) =
    held_of (pge facts.host.regs) above
    (entry_of level (settings_with nxe facts.settings) (value_at facts.kept address present t))

-- the same, with the slot's present value as memory has it; an unknown one makes nothing
abbrev pub made_with : Facts → Bool → ℕ → ℕ → Bits → ℕ → Option Held
made_with facts nxe level address above t =
    made_of_value facts nxe level address above t (entry_at (memory_of facts.seen) address)

-- what it makes of a slot at a time, with NXE as it was; nothing where it was in another PCID
abbrev pub made_in_pcid : Facts → ℕ → ℕ → Bits → ℕ → Option Held
made_in_pcid facts level address above t =
    if has_time facts.nxe_clear t then made_with facts false level address above t else
    (if has_time facts.nxe_set t then made_with facts true level address above t else None)

-- what it makes at a time of the entry of a table that serves x
abbrev pub makes_of : Facts → ℕ → ℕ → Bits → ℕ → ℕ → Option Held
makes_of facts level table above x t = made_in_pcid facts level (entry_address level x table) above t

-- whether the event that led to a time took what is held of a level for x
abbrev pub takes_of : Facts → ℕ → ℕ → Held → ℕ → Bool
takes_of facts level x held t = removed_in facts.host.removals (cache_key facts.under level x held) t

-- the times lie between the horizon and now, and at none of them NXE is both
pub record AreTimely (facts : Facts) : Type 0 where
  pub order : facts.host.horizon ≤ facts.end
  pub clear_since : (t : ℕ) → has_time facts.nxe_clear t ≡ true → facts.host.horizon ≤ t
  pub clear_until : (t : ℕ) → has_time facts.nxe_clear t ≡ true → t ≤ facts.end
  pub set_since : (t : ℕ) → has_time facts.nxe_set t ≡ true → facts.host.horizon ≤ t
  pub set_until : (t : ℕ) → has_time facts.nxe_set t ≡ true → t ≤ facts.end
  pub apart : (t : ℕ) → has_time facts.nxe_clear t ≡ true → has_time facts.nxe_set t ≡ false

-- the present translation of a page
abbrev pub present_at : Facts → ℕ → Option (Target ℕ)
present_at facts x =
    granted_target facts.host.regs x (raw_target (memory_of facts.seen) facts.settings facts.home x)

-- a translation by an entry of a level is asked for, and exceeds the present translation of a page
pub record IsStaleBy (facts : Facts) (level : ℕ) (held : Held) (one : StalePage) : Type 0 where
  pub asked : (facts.only_global && not held.global) ≡ false
  pub exceeds : Exceeds (present_at facts one.page) (held_target facts.host.regs level one.page held)
  pub frame : one.frame ≡ frame_at level one.page held
  pub excess : one.excess ≡ excess_over (present_at facts one.page) (held_target facts.host.regs level one.page held)

-- what is said of a range is what the root `home` maps it to
abbrev pub IsOfHome : Facts → PresentRange → Type 0
IsOfHome facts range = (x : ℕ) → range.first ≤ x → x < range.first + span range.level → x % 4096 ≡ 0
    → maps (memory_of facts.seen) facts.settings range.level range.first range.there x
    ≡ raw_target (memory_of facts.seen) facts.settings facts.home x
