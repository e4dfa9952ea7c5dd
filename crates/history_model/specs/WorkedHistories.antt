-- Examples that pin the moments of a log and what its events remove: their values were worked out by hand.
-- The small core: a PML4 at 0x1000, a PDPT at 0x2000, a PD at 0x3000 and a PT at 0x4000, which maps the page 0x0 to 0x5000
-- and the page 0x1000, without writes, to 0x6000. Of its memory only those entries are known, and the one at 0x4010.
use Rattle.std.specs.Prelude.{◌≡◌, ℕ, zero, suc, ◌+◌, ◌-◌, ◌/◌, ◌%◌, Bool, true, false, Some, None, Ok, Err, List, [], ◌∷◌, length}
use Rattle.paging_model.specs.Memory.{Memory, Extent}
use Rattle.paging_model.specs.Registers.{machine_of}
use Rattle.paging_model.specs.WorkedExamples.{small_regs}
use Rattle.paging_model.specs.WorkedSpaces.{small_machine}
use Rattle.paging_model.specs.declared.access.Access.TheVariants as access
use Rattle.paging_model.specs.declared.access.Rule.TheVariants as rule
use Rattle.paging_model.specs.declared.registers.Processor.{Processor}
use Rattle.paging_model.specs.declared.registers.RegChange.TheVariants as change
use Rattle.paging_model.specs.declared.registers.RegRule.TheVariants as register
use Rattle.paging_model.specs.declared.registers.Regs.{Regs}
use Rattle.history_model.specs.Asking.{answer_to_ask}
use Rattle.history_model.specs.History.{Start, History, begun, next, after_event, time, memory, machine, processors, regs, page_of, pages, pcid, visited_pcids, last_root}
use Rattle.history_model.specs.Horizons.{horizon, least, changes, frames}
use Rattle.history_model.specs.Invalidations.{kills, loses_all}
use Rattle.history_model.specs.Refusals.{refusal, first_unknown, is_among, write_refusal, LeadsTo}
use Rattle.history_model.specs.declared.answers.Why.TheVariants as why
use Rattle.history_model.specs.declared.caches.CacheKey.{CacheKey}
use Rattle.history_model.specs.declared.events.Event.{Event}
use Rattle.history_model.specs.declared.events.Event.TheVariants as event
use Rattle.history_model.specs.declared.faults.StepFault.TheVariants as fault

-- the eight bytes of an entry below 0x10000
abbrev pub entry_bytes : ℕ → List ℕ
entry_bytes value = value % 256 ∷ value / 256 ∷ 0 ∷ 0 ∷ 0 ∷ 0 ∷ 0 ∷ 0 ∷ []

-- an entry alone is known at a physical address
abbrev pub entry_in : ℕ → ℕ → Extent
entry_in at value = record { start = at; bytes = entry_bytes value }

abbrev pub small_extents : List ℕ → List ℕ → List Extent
small_extents first second =
    entry_in 0x1000 0x2007 ∷ entry_in 0x2000 0x3007 ∷ entry_in 0x3000 0x4007 ∷ record { start = 0x4000; bytes = first }
    ∷ record { start = 0x4008; bytes = second } ∷ entry_in 0x4010 0 ∷ []

-- a processor by its number
abbrev pub processor : ℕ → Regs → Processor
processor cpu regs = record { number = cpu; regs = regs }

abbrev pub small_start : Start
small_start = record {
  extents = small_extents (entry_bytes 0x5007) (entry_bytes 0x6005);
  stated = true;
  machine = small_machine;
  processors = processor 0 small_regs ∷ processor 1 small_regs ∷ [];
}

abbrev pub zeros : List ℕ
zeros = entry_bytes 0

-- keys: a translation of the page 0x1000, a PDE below address 0, the translation made global, and under PCID 1
abbrev pub page_key : ℕ → Bool → CacheKey
page_key c global = record { pcid = c; level = 1; prefix = 0x1000; leaf = true; global = global }

abbrev pub table_key : CacheKey
table_key = record { pcid = 0; level = 2; prefix = 0; leaf = false; global = false }

-- a 2-MByte page, from 0x200000 to 0x3fffff
abbrev pub large_key : CacheKey
large_key = record { pcid = 0; level = 2; prefix = 0x200000; leaf = true; global = false }

-- a reference to a PML4 in a PML5, of the addresses to 0xffffffffffff
abbrev pub top_key : CacheKey
top_key = record { pcid = 0; level = 5; prefix = 0; leaf = false; global = false }

-- what an event of a processor removes, of these keys
pub record Removes (happened : Event) (before : Regs) (of_page of_table of_global of_other : Bool) : Type 0 where
  pub page : kills happened 0 before (page_key 0 false) ≡ of_page
  pub table : kills happened 0 before table_key ≡ of_table
  pub global : kills happened 0 before (page_key 0 true) ≡ of_global
  pub other_pcid : kills happened 0 before (page_key 1 false) ≡ of_other
  pub other_cpu : kills happened 1 before (page_key 0 false) ≡ false
  pub other_cpu_table : kills happened 1 before table_key ≡ false
  pub other_cpu_global : kills happened 1 before (page_key 0 true) ≡ false
  pub other_cpu_other_pcid : kills happened 1 before (page_key 1 false) ≡ false

abbrev pub with_pcids : Regs
with_pcids = record small_regs { cr4 = 0x20020 }

-- with LA57: bits 63:56 of a canonical address are equal
abbrev pub with_five_levels : Regs
with_five_levels = record small_regs { cr4 = 0x1020 }

pub record OfInvalidations : Type 0 where
  pub invlpg : Removes (event.Invlpg 0 0x1fff) small_regs true true true false
  pub invlpg_elsewhere : Removes (event.Invlpg 0 0x9000) small_regs false true false false
  pub invlpg_in_another_table : Removes (event.Invlpg 0 0x40000000) small_regs false true false false
  pub invlpg_of_no_address : Removes (event.Invlpg 0 0x800000000000) small_regs false false false false
  pub one_address : Removes (event.Invpcid 0 0 0 0x1000) small_regs true true false false
  pub one_address_elsewhere : Removes (event.Invpcid 0 0 0 0x40000000) small_regs false false false false
  pub one_address_of_none : kills (event.Invpcid 0 0 0 0x800000000000) 0 small_regs top_key ≡ false
  pub one_pcid : Removes (event.Invpcid 0 1 0 0x0) small_regs true true false false
  pub other_pcid : Removes (event.Invpcid 0 1 1 0x0) with_pcids false false false true
  pub everything : Removes (event.Invpcid 0 2 0 0x0) small_regs true true true true
  pub all_but_global : Removes (event.Invpcid 0 3 0 0x0) small_regs true true false true
  pub cr3 : Removes (event.Set 0 (change.Cr3 0x1000)) small_regs true true false false
  pub cr3_without_pcids : Removes (event.Set 0 (change.Cr3 0x1001)) small_regs true true false false
  pub cr3_of_a_pcid : Removes (event.Set 0 (change.Cr3 0x1001)) with_pcids false false false true
  pub cr3_that_keeps : Removes (event.Set 0 (change.Cr3 0x8000000000001001)) with_pcids false false false false
  pub pge : Removes (event.Set 0 (change.Cr4 0xa0)) small_regs true true true true
  pub pge_cleared : Removes (event.Set 0 (change.Cr4 0x20)) (record small_regs { cr4 = 0xa0 }) true true true true
  pub pcide_set : Removes (event.Set 0 (change.Cr4 0x20020)) small_regs false false false false
  pub pcide_cleared : Removes (event.Set 0 (change.Cr4 0x20)) with_pcids true true true true
  pub smep_set : Removes (event.Set 0 (change.Cr4 0x100020)) small_regs true true true false
  pub smep_cleared : Removes (event.Set 0 (change.Cr4 0x20)) (record small_regs { cr4 = 0x100020 }) false false false false
  pub cr0 : Removes (event.Set 0 (change.Cr0 0x80000001)) small_regs false false false false
  pub nxe : Removes (event.Set 0 (change.Efer 0x500)) small_regs false false false false
  pub keys : Removes (event.Set 0 (change.Pkru 4)) small_regs false false false false
  pub write : Removes (event.Write 0x4008 zeros) small_regs false false false false
  pub all_lost : loses_all (event.Invpcid 0 2 0 0x0) 0 small_regs ≡ true
  pub all_lost_elsewhere : loses_all (event.Invpcid 1 2 0 0x0) 0 small_regs ≡ false
  pub not_all_lost : loses_all (event.Invpcid 0 3 0 0x0) 0 small_regs ≡ false
  pub all_lost_by_pge : loses_all (event.Set 0 (change.Cr4 0xa0)) 0 small_regs ≡ true
  pub not_all_lost_by_smep : loses_all (event.Set 0 (change.Cr4 0x100020)) 0 small_regs ≡ false
  pub before_a_large_page : kills (event.Invlpg 0 0x1fffff) 0 small_regs large_key ≡ false
  pub last_of_a_large_page : kills (event.Invlpg 0 0x3fffff) 0 small_regs large_key ≡ true
  pub after_a_large_page : kills (event.Invlpg 0 0x400000) 0 small_regs large_key ≡ false
  pub invlpg_of_five_levels : kills (event.Invlpg 0 0x800000000000) 0 with_five_levels table_key ≡ true
  pub invlpg_of_no_address_of_five : kills (event.Invlpg 0 0x100000000000000) 0 with_five_levels table_key ≡ false
  pub one_address_of_five_levels : kills (event.Invpcid 0 0 0 0x800000000000) 0 with_five_levels top_key ≡ true

-- processor 0 turns PCIDs on, goes to PCID 1, and then to PCID 2 with another root
abbrev pub three_pcids : History
three_pcids =
    next (next (next (begun small_start) (event.Set 0 (change.Cr4 0x20020)))
    (event.Set 0 (change.Cr3 0x1001))) (event.Set 0 (change.Cr3 0x8000000000008002))

-- it goes back to PCID 1 with another root, and to PCID 2
abbrev pub pcids_again : History
pcids_again = next (next three_pcids (event.Set 0 (change.Cr3 0x2001))) (event.Set 0 (change.Cr3 0x8002))

abbrev pub two_writes : History
two_writes = next (next (begun small_start) (event.Write 0x4000 (1 ∷ 2 ∷ []))) (event.Write 0x4001 (3 ∷ []))

pub record OfMoments : Type 0 where
  pub written : memory two_writes 0x4000 ≡ Some 1
  pub written_last : memory two_writes 0x4001 ≡ Some 3
  pub unwritten : memory two_writes 0x4008 ≡ Some 5
  pub unknown : memory (next (begun small_start) (event.Write 0x9000 (1 ∷ []))) 0x9000 ≡ None
  pub touched : pages (next two_writes (event.Write 0x1004 (0 ∷ []))) ≡ 0x1000 ∷ 0x4000 ∷ []
  pub three_events : time three_pcids ≡ 3
  pub cr3 : regs three_pcids 0 ≡ Some (record small_regs { cr3 = 0x8002; cr4 = 0x20020 })
  pub other_cpu : regs three_pcids 1 ≡ Some small_regs
  pub stranger : regs three_pcids 2 ≡ None
  pub last_pcid : pcid three_pcids 0 ≡ Some 2
  pub all_pcids : visited_pcids three_pcids 0 ≡ 0 ∷ 1 ∷ 2 ∷ []
  pub first_root : last_root three_pcids 0 1 ≡ Some 0x1000
  pub latest_root : last_root three_pcids 0 2 ≡ Some 0x8000
  pub no_root : last_root three_pcids 0 3 ≡ None
  pub left_root : last_root pcids_again 0 1 ≡ Some 0x2000
  pub present_root : last_root pcids_again 0 2 ≡ Some 0x8000
  pub pcids_once : visited_pcids pcids_again 0 ≡ 0 ∷ 1 ∷ 2 ∷ []
  pub by_number : processors (after_event (event.Cpu 0 with_pcids)
      (begun (record small_start { processors = processor 1 small_regs ∷ [] })))
      ≡ processor 0 with_pcids ∷ processor 1 small_regs ∷ []
  pub stated_machine : machine (after_event (event.Machine (machine_of 46 false)) (begun small_start)) ≡ machine_of 46 false
  pub after_a_state_line : time (after_event (event.Machine (machine_of 46 false)) (begun small_start)) ≡ 0
  pub after_an_event : after_event (event.Ask 0 access.Ur 0) (begun small_start)
      ≡ next (begun small_start) (event.Ask 0 access.Ur 0)

-- both processors lose everything after the writes
abbrev pub two_losses : History
two_losses = next (next two_writes (event.Invpcid 0 2 0 0)) (event.Invpcid 1 2 0 0)

pub record OfHorizons : Type 0 where
  pub at_first : horizon three_pcids 0 ≡ 0
  pub by_invpcid : horizon (next three_pcids (event.Invpcid 0 2 0 0)) 0 ≡ 4
  pub of_another : horizon (next three_pcids (event.Invpcid 0 2 0 0)) 1 ≡ 0
  pub kept : horizon (next three_pcids (event.Invpcid 0 3 0 0)) 0 ≡ 0
  pub least_of_two : least (next three_pcids (event.Invpcid 0 2 0 0)) ≡ 0
  pub least_of_both : least (next (next three_pcids (event.Invpcid 0 2 0 0)) (event.Invpcid 1 2 0 0)) ≡ 4
  pub without_processors : least (next (begun (record small_start { processors = [] })) (event.Write 0x4000 zeros)) ≡ 1
  pub two_changes : changes two_writes ≡ 2
  pub across_slots : changes (next (begun small_start) (event.Write 0x4004 zeros)) ≡ 2
  pub one_page : frames two_writes ≡ 1
  pub none_since : changes two_losses ≡ 0
  pub no_page_since : frames two_losses ≡ 0
  pub one_since : changes (next two_losses (event.Write 0x4008 zeros)) ≡ 1
  pub one_page_since : frames (next two_losses (event.Write 0x4008 zeros)) ≡ 1

-- a processor with five levels
abbrev pub five_level_start : Start
five_level_start = record small_start { processors = processor 0 with_five_levels ∷ [] }

-- so many processors, by their numbers from one on
abbrev pub processors_from : ℕ → ℕ → List Processor
processors_from first zero = []
processors_from first (suc n) = processor first small_regs ∷ processors_from (first + 1) n

pub record OfRefusalLimits : Type 0 where
  pub last_processor : refusal (begun (record small_start { processors = processors_from 0 63 })) (event.Cpu 63 small_regs)
      ≡ None
  pub too_many_processors : refusal (begun (record small_start { processors = processors_from 0 64 }))
      (event.Cpu 64 small_regs) ≡ Some fault.TooManyProcessors
  pub last_page : (known : Memory) (touched : List ℕ) (at n : ℕ) → first_unknown known at n ≡ None
      → page_of (at + n - 1) ≡ page_of at → length touched ≡ 262143 → write_refusal known touched at n ≡ None
  pub too_many_pages : (known : Memory) (touched : List ℕ) (at n : ℕ) → first_unknown known at n ≡ None
      → page_of (at + n - 1) ≡ page_of at → is_among (page_of at) touched ≡ false → length touched ≡ 262144
      → write_refusal known touched at n ≡ Some fault.OverlayFull
  pub a_page_again : (known : Memory) (touched : List ℕ) (at n : ℕ) → first_unknown known at n ≡ None
      → page_of (at + n - 1) ≡ page_of at → is_among (page_of at) touched ≡ true
      → write_refusal known touched at n ≡ None

pub record OfRefusals : Type 0 where
  pub point : refusal (begun small_start) (event.Point true) ≡ None
  pub second_machine : refusal (begun small_start) (event.Machine small_machine) ≡ Some fault.LateState
  pub machine_after_a_processor : refusal (begun (record small_start { stated = false })) (event.Machine small_machine)
      ≡ Some fault.LateState
  pub late_processor : refusal three_pcids (event.Cpu 2 small_regs) ≡ Some fault.LateState
  pub double_processor : refusal (begun small_start) (event.Cpu 1 small_regs) ≡ Some (fault.DoubleProcessor 1)
  pub processor : refusal (begun small_start) (event.Cpu 2 small_regs) ≡ None
  pub illegal_processor : refusal (begun small_start) (event.Cpu 2 (record small_regs { cr0 = 0 }))
      ≡ Some (fault.Illegal register.PagingOff)
  pub illegal_change : refusal three_pcids (event.Set 0 (change.Cr4 0x1020)) ≡ Some (fault.Illegal register.La57Changed)
  pub stranger : refusal three_pcids (event.Ask 3 access.Ur 0) ≡ Some (fault.NoProcessor 3)
  pub known : refusal three_pcids (event.Ask 1 access.Ur 0) ≡ None
  pub bad_type : refusal (begun small_start) (event.Invpcid 0 4 5000 0) ≡ Some fault.BadType
  pub bad_pcid : refusal (begun small_start) (event.Invpcid 0 3 4096 0) ≡ Some fault.BadPcid
  pub pcid_without_pcids : refusal (begun small_start) (event.Invpcid 0 1 1 0) ≡ Some fault.BadPcid
  pub pcid_of_no_use : refusal (begun small_start) (event.Invpcid 0 2 1 0) ≡ None
  pub not_canonical : refusal (begun small_start) (event.Invpcid 0 0 0 0x800000000000) ≡ Some fault.NotCanonical
  pub unknown : refusal (begun small_start) (event.Write 0x4014 zeros) ≡ Some (fault.Unknown 0x4018)
  pub not_canonical_of_five : refusal (begun five_level_start)
      (event.Invpcid 0 0 0 0x100000000000000) ≡ Some fault.NotCanonical
  pub canonical_of_five : refusal (begun five_level_start)
      (event.Invpcid 0 0 0 0x800000000000) ≡ None
  pub unknown_before_crosses : refusal
      (begun (record small_start { extents = record { start = 0x1ffc; bytes = 0 ∷ 0 ∷ 0 ∷ 0 ∷ [] } ∷ [] }))
      (event.Write 0x1ffc zeros) ≡ Some (fault.Unknown 0x2000)
  pub crosses : refusal (begun (record small_start { extents = record { start = 0x1ffc; bytes = zeros } ∷ [] }))
      (event.Write 0x1ffc zeros) ≡ Some (fault.Crosses 0x2000)
  pub write : refusal (begun small_start) (event.Write 0x4008 zeros) ≡ None

-- each event of the processor that goes through three PCIDs is accepted, and each of two writes
pub record OfAcceptedEvents : Type 0 where
  pub three : LeadsTo (begun small_start) three_pcids
  pub writes : LeadsTo (begun small_start) two_writes

pub record OfAsking : Type 0 where
  pub granted : answer_to_ask (memory (begun small_start)) small_machine small_regs access.Ur 0x1234 ≡ Ok 0x6234
  pub rule_of_the_page : answer_to_ask (memory (begun small_start)) small_machine small_regs access.Uw 0x1234
      ≡ Err (why.Denied rule.Write)
  pub absent : answer_to_ask (memory (begun small_start)) small_machine small_regs access.Ur 0x2000 ≡ Err (why.Absent 1)
  pub unknown : answer_to_ask (memory (begun small_start)) small_machine small_regs access.Ur 0x3000 ≡ Err (why.Unknown 1)
  pub not_canonical : answer_to_ask (memory (begun small_start)) small_machine small_regs access.Ur 0x800000000000
      ≡ Err why.NotCanonical
  pub lass : answer_to_ask (memory (begun small_start)) small_machine (record small_regs { cr4 = 0x8000020 }) access.Sx 0
      ≡ Err why.Lass
