-- Examples that pin what a processor may hold and use, and what of it is stale: worked out by hand.
use Rattle.std.specs.Prelude.{◌≡◌, ℕ, true, false, List, [], ◌∷◌}
use Rattle.paging_model.specs.Memory.{Extent}
use Rattle.paging_model.specs.Walking.{walk}
use Rattle.paging_model.specs.WorkedExamples.{small_regs, all, no_write}
use Rattle.paging_model.specs.WorkedSpaces.{small_machine, small_settings}
use Rattle.paging_model.specs.declared.registers.RegChange.TheVariants as change
use Rattle.paging_model.specs.declared.walks.Walk.TheVariants as walked
use Rattle.history_model.specs.History.{History, begun, next, memory}
use Rattle.history_model.specs.CachedTranslations.{Held, MayHold, MayUse}
use Rattle.history_model.specs.StaleTranslations.{IsStale, IsWorst, AreFindings, scope}
use Rattle.history_model.specs.WorkedHistories.{entry_bytes, entry_in, processor}
use Rattle.history_model.specs.declared.caches.Finding.{Finding}
use Rattle.history_model.specs.declared.events.Event.TheVariants as event

-- the tables above the last one: a PML4 at 0x1000, a PDPT at 0x2000 and a PD at 0x3000, which references a PT at 0x4000
abbrev pub upper_tables : List Extent → List Extent
upper_tables last = entry_in 0x1000 0x2007 ∷ entry_in 0x2000 0x3007 ∷ entry_in 0x3000 0x4007 ∷ last

-- the translation of a page with all rights, not global
abbrev pub page_at : ℕ → Held
page_at frame = record { leaf = true; frame = frame; bits = all; key = 0; global = false }

-- an empty last table, then no last table, then a page in the table that nothing in memory references any more
abbrev pub empty_table : History
empty_table = begun (record {
  extents = upper_tables (entry_in 0x4010 0 ∷ []);
  stated = true;
  machine = small_machine;
  processors = processor 0 small_regs ∷ [];
})

abbrev pub unlinked_table : History
unlinked_table = next empty_table (event.Write 0x3000 (entry_bytes 0))

abbrev pub filled_table : History
filled_table = next unlinked_table (event.Write 0x4010 (entry_bytes 0x7007))

-- a translation is made through a reference that is held alone: no moment's tables map the page
pub record OfHeldTables : Type 0 where
  pub first : walk (memory empty_table) small_settings 0x1000 0x2000 ≡ walked.Absent 1
  pub unlinked : walk (memory unlinked_table) small_settings 0x1000 0x2000 ≡ walked.Absent 2
  pub filled : walk (memory filled_table) small_settings 0x1000 0x2000 ≡ walked.Absent 2
  pub held : MayHold filled_table 0 0 1 0x2000 (page_at 0x7000)

-- a 2-MByte page at 0x0, whose first eight bytes look like an entry of level 1
abbrev pub large_page : History
large_page = begun (record {
  extents = entry_in 0x1000 0x2007 ∷ entry_in 0x2000 0x3007 ∷ entry_in 0x3000 0x87 ∷ entry_in 0x0 0x7007 ∷ [];
  stated = true;
  machine = small_machine;
  processors = processor 0 small_regs ∷ [];
})

-- nothing is made below the translation of a page
pub record OfLargePages : Type 0 where
  pub held : MayHold large_page 0 0 2 0 (page_at 0)
  pub nothing_below : (held : Held) → MayHold large_page 0 0 1 0 held → ⊥

-- page 0 at 0x5000 with G, and page 0x1000 at 0x6000 without, on a processor with this CR4 in PCID 0
abbrev pub with_global : ℕ → History
with_global cr4 = begun (record {
  extents = upper_tables (entry_in 0x4000 0x5107 ∷ entry_in 0x4008 0x6007 ∷ []);
  stated = true;
  machine = small_machine;
  processors = processor 0 (record small_regs { cr4 = cr4 }) ∷ [];
})

-- with PCIDs and global pages, both pages are unmapped
abbrev pub without_pages : History
without_pages =
    next (next (with_global 0x200a0) (event.Write 0x4000 (entry_bytes 0))) (event.Write 0x4008 (entry_bytes 0))

-- the processor goes on to PCID 1
abbrev pub in_other_pcid : History
in_other_pcid = next without_pages (event.Set 0 (change.Cr3 0x1001))

-- a global translation may be used under each PCID, any other under its own; G counts with CR4.PGE alone
pub record OfGlobals : Type 0 where
  pub everywhere : MayUse in_other_pcid 0 1 1 0 (record (page_at 0x5000) { global = true })
  pub own : MayUse in_other_pcid 0 0 1 0x1000 (page_at 0x6000)
  pub not_elsewhere : MayUse in_other_pcid 0 1 1 0x1000 (page_at 0x6000) → ⊥
  pub current_alone : (x level : ℕ) (held : Held) → MayHold (with_global 0x200a0) 0 1 level x held → ⊥
  pub without_pge : MayHold (with_global 0x20) 0 0 1 0 (page_at 0x5000)
  pub none_without_pge : (held : Held) → MayHold (with_global 0x20) 0 0 1 0 held → held.global ≡ false

-- page 0 at 0x5000 with all rights, and page 0x1000, without writes, at 0x6000, on two processors
abbrev pub two_pages : History
two_pages = begun (record {
  extents = upper_tables (entry_in 0x4000 0x5007 ∷ entry_in 0x4008 0x6005 ∷ []);
  stated = true;
  machine = small_machine;
  processors = processor 0 small_regs ∷ processor 1 small_regs ∷ [];
})

-- the entry of page 0 gets another value
abbrev pub with_first_entry : ℕ → History
with_first_entry value = next two_pages (event.Write 0x4000 (entry_bytes value))

-- the entry of page 0x1000 is cleared, and processor 0 invalidates page 0
abbrev pub neighbor : History
neighbor = next (next two_pages (event.Write 0x4008 (entry_bytes 0))) (event.Invlpg 0 0x0)

-- INVLPG of one page leaves the translation of the next
pub record OfNeighbors : Type 0 where
  pub held : MayHold neighbor 0 0 1 0x1000 (record (page_at 0x6000) { bits = no_write })

-- a finding under PCID 0
abbrev pub finding : ℕ → ℕ → ℕ → ℕ → Finding
finding cpu page frame excess = record { cpu = cpu; pcid = 0; page = page; frame = frame; excess = excess }

-- what exceeds the present tables: the three writes (2, 16 and 128) of a page that they make read-only, and everything of
-- a page that they take elsewhere
pub record OfExcess : Type 0 where
  pub read_only : IsStale (with_first_entry 0x5005) (finding 0 0 0x5000 146)
  pub elsewhere : IsStale (with_first_entry 0x7007) (finding 0 0 0x5000 255)

-- the entry of page 0x1000 is cleared after that of page 0
abbrev pub without_entries : History
without_entries = next (with_first_entry 0) (event.Write 0x4008 (entry_bytes 0))

-- a point finds the first stale page of each processor
pub record OfFindings : Type 0 where
  pub both : AreFindings (with_first_entry 0) (scope (with_first_entry 0) false)
      (finding 0 0 0x5000 255 ∷ finding 1 0 0x5000 255 ∷ [])
  pub first_page : IsStale without_entries (finding 0 0 0x5000 255)
  pub second_page : IsStale without_entries (finding 0 0x1000 0x6000 109)
  pub least_alone : IsWorst without_entries (finding 0 0x1000 0x6000 109) → ⊥
