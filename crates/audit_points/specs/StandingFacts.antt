-- What an audit goes by stands for a history, and what is stale there. Our own words, over SDM 3A, "Propagation of
-- Paging-Structure Changes to Multiple Processors".
use Rattle.std.specs.Prelude.{◌≡◌, ℕ, ◌^◌, ◌<◌, ◌==◌, ◌&&◌, ◌⊎◌, not, Bool, true, false, Some, None, nat_le}
use Rattle.paging_model.specs.Entries.{root_bits}
use Rattle.paging_model.specs.Registers.{settings_of}
use Rattle.paging_model.specs.Counting.{IsIn}
use Rattle.paging_model.specs.Translations.{present_target}
use Rattle.paging_model.specs.Walking.{top_level}
use Rattle.phys_view.specs.Seen.{memory_of}
use Rattle.history_model.specs.CachedTranslations.{Held, MayHold, frame_at}
use Rattle.history_model.specs.History.{History, machine, memory, time, visited_pcids}
use Rattle.history_model.specs.StaleTranslations.{Exceeds, excess_over, held_target}
use Rattle.audit_laws.specs.Leads.{Leads}
use Rattle.audit_laws.specs.MadeAtTimes.{IsRootAt}
use Rattle.audit_laws.specs.declared.stale_pages.StalePage.{StalePage}
use Rattle.cache_rules.specs.Standing.{IsHostOf, stay_in}
use Rattle.stay_times.specs.Periods.{is_wanted_if}
use Rattle.stay_times.specs.declared.wanted.Wanted.{Wanted}
use Rattle.time_sets.specs.Sets.{has_time}
use Rattle.version_store.specs.WrittenChanges.{TellValues}
use Rattle.stale_audit.specs.Facts.{Facts, IsStaleBy, makes_of, takes_of}
use Rattle.stale_audit.specs.Tops.{IsTopPage}

-- the stays in a PCID with NXE as given
abbrev pub with_nxe_in : ℕ → Bool → Wanted
with_nxe_in c nxe = record { pcid = c; nxe = Some nxe; root = None }

-- at a time from the horizon to now, the processor was in the PCID with NXE as given
abbrev pub is_in_pcid : Facts → Bool → ℕ → Bool
is_in_pcid facts nxe t =
    nat_le facts.host.horizon t && (nat_le t facts.end && is_wanted_if (with_nxe_in facts.under nxe) (stay_in facts.host.past t))

-- what an audit goes by is what the history tells
pub record FactsStandFor (facts : Facts) (history : History) : Type 0 where
  pub host : IsHostOf facts.host history
  pub kept : TellValues facts.kept facts.host.horizon history
  pub memory_is : memory_of facts.seen ≡ memory history
  pub end_is : facts.end ≡ time history
  pub settings_is : facts.settings ≡ settings_of facts.host.regs (machine history)
  pub pcid : facts.under < 2 ^ 16
  pub clear_is : (t : ℕ) → has_time facts.nxe_clear t ≡ is_in_pcid facts false t
  pub set_is : (t : ℕ) → has_time facts.nxe_set t ≡ is_in_pcid facts true t

-- a root that the processor had leads to a translation that is stale at a page
pub record IsFoundUnderRoots (facts : Facts) (history : History) (level : ℕ) (one : StalePage) : Type 0 where
  pub page : IsTopPage level one.page
  pub root : ℕ
  pub k : ℕ
  pub held : Held
  pub leaf : held.leaf ≡ true
  pub leads : Leads (makes_of facts) (takes_of facts) facts.end one.page
      (IsRootAt history facts.host.number facts.under level root) level root root_bits k held
  pub stale : IsStaleBy facts k held one

-- a translation that the processor may hold under the PCID is asked for, and exceeds the present tables at a page
pub record IsStaleHeldUnder (facts : Facts) (history : History) (level : ℕ) (one : StalePage) : Type 0 where
  pub page : IsTopPage level one.page
  pub k : ℕ
  pub held : Held
  pub leaf : held.leaf ≡ true
  pub may_hold : MayHold history facts.host.number facts.under k one.page held
  pub asked : (facts.only_global && not held.global) ≡ false
  pub exceeds : Exceeds (present_target (memory history) (machine history) facts.host.regs facts.home one.page)
      (held_target facts.host.regs k one.page held)
  pub frame : one.frame ≡ frame_at k one.page held
  pub excess : one.excess ≡ excess_over
      (present_target (memory history) (machine history) facts.host.regs facts.home one.page)
      (held_target facts.host.regs k one.page held)

-- what an audit under a PCID goes by, for what is held under a PCID: of another one, global translations alone count
abbrev pub held_under : Facts → ℕ → ℕ → Facts
held_under facts c under = record facts { under = under; only_global = not (under == c) }

-- a translation that is held under the PCID or under a visited one is stale at a page
pub record IsStaleUnderSome (facts : Facts) (history : History) (c : ℕ) (one : StalePage) : Type 0 where
  pub under : ℕ
  pub visited : (under ≡ c) ⊎ IsIn under (visited_pcids history facts.host.number)
  pub stale : IsStaleHeldUnder (held_under facts c under) history (top_level facts.settings) one
