-- What an audit goes by, and what it finds. Our own words, over SDM 3A, "Propagation of Paging-Structure Changes to
-- Multiple Processors".
use Rattle.std.specs.Prelude.{◌≡◌, ℕ, ◌^◌, ◌<◌, ◌≤◌, ◌&&◌, ◌⊎◌, Bool, true, false, if◌then◌else◌, List, [], ◌∷◌, ◌++◌, Some, map, nat_le}
use Rattle.std.specs.BTreeMap.{get}
use Rattle.std.specs.List.{All}
use Rattle.std.specs.Ordering.{nat_cmp}
use Rattle.paging_model.specs.Entries.{IsFrame}
use Rattle.paging_model.specs.Registers.{pcid_of, settings_of}
use Rattle.paging_model.specs.Walking.{top_level}
use Rattle.paging_model.specs.declared.registers.Machine.{Machine}
use Rattle.paging_model.specs.declared.registers.Processor.{Processor}
use Rattle.paging_model.specs.declared.registers.Settings.{Settings}
use Rattle.phys_view.specs.Seen.{Seen, memory_of}
use Rattle.history_model.specs.History.{History, machine, memory, processors, time}
use Rattle.history_model.specs.StaleTranslations.{AreFindings}
use Rattle.history_model.specs.declared.caches.Finding.{Finding}
use Rattle.audit_laws.specs.declared.stale_pages.StalePage.{StalePage}
use Rattle.cache_rules.specs.Hosts.{Keeping, home_pcids, root_in}
use Rattle.cache_rules.specs.Removals.{AreAscending}
use Rattle.cache_rules.specs.Standing.{IsHostOf, stay_in}
use Rattle.cache_rules.specs.declared.stays.Stay.{Stay}
use Rattle.stay_times.specs.Periods.{HasSomeTime, has_if, is_wanted_if, starts, under_root}
use Rattle.stay_times.specs.declared.wanted.Wanted.{Wanted}
use Rattle.time_sets.specs.Sets.{has_time}
use Rattle.version_store.specs.Changes.{KeptChanges}
use Rattle.version_store.specs.WrittenChanges.{TellValues}
use Rattle.stale_audit.specs.Facts.{Facts}
use Rattle.audit_points.specs.StandingFacts.{IsStaleHeldUnder, held_under, with_nxe_in}
use Rattle.audit_points.specs.declared.pcid_times.PcidTimes.{PcidTimes}

-- what the audit of one processor goes by: the present memory, its kept changes, the processor, its settings, and now
pub record HostFacts : Type 0 where
  pub seen : Seen
  pub kept : KeptChanges
  pub host : Keeping
  pub settings : Settings
  pub end : ℕ

-- it is what the history tells
pub record HostFactsStandFor (facts : HostFacts) (history : History) : Type 0 where
  pub host : IsHostOf facts.host history
  pub kept : TellValues facts.kept facts.host.horizon history
  pub memory_is : memory_of facts.seen ≡ memory history
  pub end_is : facts.end ≡ time history
  pub settings_is : facts.settings ≡ settings_of facts.host.regs (machine history)

-- the stays ascend, the processor lost everything by now, and each of its roots is the frame of a table
pub record IsAuditable (host : Keeping) (now : ℕ) : Type 0 where
  pub ascending : AreAscending 0 (starts host.past)
  pub order : host.horizon ≤ now
  pub roots : (t : ℕ) (stay : Stay) → stay_in host.past t ≡ Some stay → IsFrame stay.root
  pub homes : (c root : ℕ) → root_in host.homes c ≡ Some root → IsFrame root

-- at a time from the horizon to now, the processor's stay is one that is asked for
abbrev pub is_recent_stay : Keeping → ℕ → Wanted → ℕ → Bool
is_recent_stay host now wanted t =
    nat_le host.horizon t && (nat_le t now && is_wanted_if wanted (stay_in host.past t))

-- the times of a PCID are those of the processor's stays in it
pub record AreTimesOf (host : Keeping) (now : ℕ) (times : PcidTimes) : Type 0 where
  pub fits : times.pcid < 2 ^ 16
  pub clear_is : (t : ℕ) → has_time times.nxe_clear t ≡ is_recent_stay host now (with_nxe_in times.pcid false) t
  pub set_is : (t : ℕ) → has_time times.nxe_set t ≡ is_recent_stay host now (with_nxe_in times.pcid true) t
  pub roots_are : (root t : ℕ) → has_if (get nat_cmp times.roots root) t
      ≡ is_recent_stay host now (under_root times.pcid root) t
  pub in_use : (root : ℕ) (some : List (ℕ × ℕ)) → get nat_cmp times.roots root ≡ Some some → HasSomeTime some

-- the PCIDs whose times these are
abbrev pub pcids_timed : List PcidTimes → List ℕ
pcids_timed times = map (λ (one : PcidTimes). one.pcid) times

-- what the descent goes by, for what is held under one PCID and justified by a root
abbrev pub facts_in : HostFacts → ℕ → PcidTimes → Bool → Facts
facts_in facts home times only_global = record {
  seen = facts.seen;
  kept = facts.kept;
  host = facts.host;
  settings = facts.settings;
  home = home;
  under = times.pcid;
  only_global = only_global;
  end = facts.end;
  nxe_clear = times.nxe_clear;
  nxe_set = times.nxe_set;
}

-- the same, before the PCID under which it is held is known
abbrev pub facts_with_home : HostFacts → ℕ → Facts
facts_with_home facts home = record {
  seen = facts.seen;
  kept = facts.kept;
  host = facts.host;
  settings = facts.settings;
  home = home;
  under = 0;
  only_global = false;
  end = facts.end;
  nxe_clear = [];
  nxe_set = [];
}

-- a translation that is held under one PCID is stale under another one
abbrev pub IsStaleHeldFor : HostFacts → History → ℕ → ℕ → ℕ → StalePage → Type 0
IsStaleHeldFor facts history home c under one =
    IsStaleHeldUnder (held_under (facts_with_home facts home) c under) history (top_level facts.settings) one

-- one that is held under some of these PCIDs is
abbrev pub IsStaleHeldForSome : HostFacts → History → ℕ → ℕ → List ℕ → StalePage → Type 0
IsStaleHeldForSome facts history home c [] one = ⊥
IsStaleHeldForSome facts history home c (under ∷ rest) one =
    IsStaleHeldFor facts history home c under one ⊎ IsStaleHeldForSome facts history home c rest one

-- findings of more pairs are added to others, in each history that the facts stand for
abbrev pub AddFindings : HostFacts → List (ℕ × ℕ) → List Finding → List Finding → Type 0
AddFindings facts more old new = (history : History) (pairs : List (ℕ × ℕ)) → HostFactsStandFor facts history
    → AreFindings history pairs old → AreFindings history (pairs ++ more) new

-- a processor, by its number, and a PCID
abbrev pub pair_of : Keeping → ℕ → ℕ × ℕ
pair_of host c = (host.number, c)

-- the pairs of a processor that an audit checks: with all PCIDs that it visited, or with its current one
abbrev pub pairs_of : Keeping → Bool → List (ℕ × ℕ)
pairs_of host all = map (pair_of host) (if all then home_pcids host else pcid_of host.regs ∷ [])

-- the same of several processors
abbrev pub pairs_of_hosts : List Keeping → Bool → List (ℕ × ℕ)
pairs_of_hosts [] all = []
pairs_of_hosts (host ∷ rest) all = pairs_of host all ++ pairs_of_hosts rest all

-- a processor, with its present registers
abbrev pub audited_processor : Keeping → Processor
audited_processor host = record { number = host.number; regs = host.regs }

-- what an audit goes by is what a history tells: the present memory, its kept changes, the processors, the machine and now
pub record StandsForAudit (seen : Seen) (kept : KeptChanges) (hosts : List Keeping) (known : Machine) (now : ℕ)
    (history : History) : Type 0 where
  pub memory_is : memory_of seen ≡ memory history
  pub kept_since : All (λ (host : Keeping). TellValues kept host.horizon history) hosts
  pub hosts_are : All (λ (host : Keeping). IsHostOf host history) hosts
  pub processors_are : map audited_processor hosts ≡ processors history
  pub machine_is : known ≡ machine history
  pub end_is : now ≡ time history
