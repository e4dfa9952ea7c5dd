-- Examples that pin how many steps an event may take: worked out by hand.
use Rattle.std.specs.Prelude.{◌≡◌, ℕ, ◌+◌, ◌*◌, ◌≤◌, true, false, [], ◌∷◌, length, Some}
use Rattle.paging_model.specs.Counting.{AtLeast}
use Rattle.paging_model.specs.Memory.{Memory}
use Rattle.paging_model.specs.Registers.{machine_of}
use Rattle.paging_model.specs.TableUses.{IsUse}
use Rattle.paging_model.specs.WorkedExamples.{small_memory, small_regs, with_entry}
use Rattle.paging_model.specs.declared.access.Access.TheVariants as access
use Rattle.paging_model.specs.declared.registers.RegChange.TheVariants as change
use Rattle.paging_model.specs.declared.entries.Bits.{Bits}
use Rattle.paging_model.specs.declared.spaces.SpaceKey.{SpaceKey}
use Rattle.paging_model.specs.declared.spaces.TableUse.{TableUse}
use Rattle.history_model.specs.Bounds.{BuildMayTake, UpdateMayTake, UpdatesMayTake, IsTable, AuditMayTake, MayTake}
use Rattle.history_model.specs.History.{Start, History, begun, next, memory, visited_pcids}
use Rattle.history_model.specs.Horizons.{space}
use Rattle.history_model.specs.KeptSpaces.{IsTouched, IsWrittenEntry}
use Rattle.history_model.specs.WorkedHistories.{small_start, three_pcids, zeros, entry_bytes, entry_in}
use Rattle.history_model.specs.WorkedHorizons.{one_root}
use Rattle.history_model.specs.WorkedKeptSpaces.{space_at, self_reference, second_reference, no_reference, two_halves, list_of_one}
use Rattle.history_model.specs.declared.events.Event.{Event}
use Rattle.history_model.specs.declared.events.Event.TheVariants as event

-- no more than so many things have the property
abbrev pub AreFew : {Thing : Type 0} → ℕ → (Thing → Type 0) → Type 0
AreFew most Has = (n : ℕ) → AtLeast n Has → n ≤ most

-- the four uses of the small core, whose tables have 512 entries each
pub record OfBuilds : Type 0 where
  pub four : BuildMayTake (begun small_start) (space_at 0x1000) 2048
  pub no_more : (history : History) (key : SpaceKey) (uses steps : ℕ)
      → AreFew uses (IsUse (memory history) key.settings key.root)
      → BuildMayTake history key steps → steps ≤ 512 * uses
  pub one_too_many : (history : History) (key : SpaceKey)
      → AtLeast 262145 (IsUse (memory history) key.settings key.root) → BuildMayTake history key 134218240
  pub not_two : (history : History) (key : SpaceKey) → BuildMayTake history key 134218241 → ⊥

-- memory after the last table is referenced twice, and maps a third page
abbrev pub third_page : Memory
third_page = with_entry 0x4010 0x7007 second_reference

-- memory after the high half of its first entry is cleared, and the low half of the second one
abbrev pub third_page_alone : Memory
third_page_alone = with_entry 0x4004 0 third_page

-- 512 steps for each touched use, and one for each written entry
pub record OfUpdates : Type 0 where
  pub by_second_reference : UpdateMayTake second_reference (space_at 0x1000) 0x3008 8 513
  pub of_two_references : UpdateMayTake third_page (space_at 0x1000) 0x4010 8 2
  pub without_reference : UpdateMayTake no_reference (space_at 0x1000) 0x3000 8 1
  pub by_reference : UpdateMayTake small_memory (space_at 0x1000) 0x3000 8 513
  pub two_slots : UpdateMayTake two_halves (space_at 0x1000) 0x4004 8 2
  pub by_self_reference : UpdateMayTake self_reference (space_at 0x1000) 0x1800 8 3076
  pub of_self_reference : UpdateMayTake (with_entry 0x3008 0x4007 self_reference) (space_at 0x1000) 0x3008 8 514
  pub two_spaces : UpdatesMayTake third_page_alone 0x4004 8 (space_at 0x2000 ∷ space_at 0x1000 ∷ []) 1032
  pub no_more : (memory : Memory) (key : SpaceKey) (at n touched entries steps : ℕ)
      → AreFew touched (IsTouched memory key at n) → AreFew entries (IsWrittenEntry memory key at n)
      → UpdateMayTake memory key at n steps → steps ≤ 512 * touched + entries

-- the PML4 references itself, and the PD references the last table a second time: ten tables, with eleven uses
abbrev pub referencing_start : Start
referencing_start = record small_start {
  extents =
      entry_in 0x1000 0x2007 ∷ entry_in 0x1800 0x1007 ∷ entry_in 0x2000 0x3007 ∷ entry_in 0x3000 0x4007
      ∷ entry_in 0x3008 0x4007 ∷ [];
}

-- 1024 steps for each table, which is a level and a frame, and for each pair of PCIDs
pub record OfAudits : Type 0 where
  pub four_tables : AuditMayTake (begun small_start) 0 5120
  pub three_of_one_root : AuditMayTake one_root 0 13312
  pub one_table : AuditMayTake three_pcids 0 10240
  pub ten_tables : AuditMayTake (begun referencing_start) 0 11264
  pub no_more : (history : History) (cpu tables steps : ℕ) (key : SpaceKey) → space history cpu ≡ Some key
      → AreFew tables (IsTable history key) → AuditMayTake history cpu steps
      → steps ≤ 1024 * (tables + length (visited_pcids history cpu) * length (visited_pcids history cpu))
  pub of_a_use : (history : History) (key : SpaceKey) (table : TableUse)
      → IsUse (memory history) key.settings key.root table → IsTable history key (table.level, table.frame)
  pub of_uses_alone : (history : History) (key : SpaceKey) (level frame : ℕ) → IsTable history key (level, frame)
      → (prefix : ℕ) × (bits : Bits)
      × IsUse (memory history) key.settings key.root
      (record { level = level; prefix = prefix; frame = frame; bits = bits })

-- of memory one entry is known, the first one of the PML4, and it is zero
abbrev pub empty_table_start : Start
empty_table_start = record small_start { extents = entry_in 0x1000 0 ∷ [] }

-- the space of processor 0 is listed
abbrev pub list_of_empty_table : History
list_of_empty_table = next (begun empty_table_start) (event.List 0)

-- then that entry references a table
abbrev pub first_reference : Event
first_reference = event.Write 0x1000 (entry_bytes 0x8007)

-- no processor
abbrev pub empty_start : Start
empty_start = record small_start { processors = [] }

-- an event takes five steps at most, as a walk of five levels does
pub record FiveAtMost (happened : Event) : Type 0 where
  pub five : MayTake (begun small_start) happened 5
  pub not_six : MayTake (begun small_start) happened 6 → ⊥

-- a listed space is built once; a write reads its slots, and updates what is kept; a point audits each processor
pub record OfSteps : Type 0 where
  pub list : MayTake (begun small_start) (event.List 0) 2048
  pub list_no_more : (steps : ℕ) → AreFew 4 (IsUse (memory (begun small_start)) (space_at 0x1000).settings 0x1000)
      → MayTake (begun small_start) (event.List 0) steps → steps ≤ 2048
  pub list_again : MayTake list_of_one (event.List 0) 0
  pub list_again_no_more : MayTake list_of_one (event.List 0) 1 → ⊥
  pub other_list : MayTake (next list_of_one (event.Set 0 (change.Cr3 0x9000))) (event.List 0) 512
  pub write : MayTake (begun small_start) (event.Write 0x4004 zeros) 2
  pub write_no_more : MayTake (begun small_start) (event.Write 0x4004 zeros) 3 → ⊥
  pub reference : MayTake list_of_empty_table first_reference 514
  pub reference_no_more : (steps : ℕ)
      → AreFew 1 (IsTouched (memory (next list_of_empty_table first_reference)) (space_at 0x1000) 0x1000 8)
      → AreFew 1 (IsWrittenEntry (memory (next list_of_empty_table first_reference)) (space_at 0x1000) 0x1000 8)
      → MayTake list_of_empty_table first_reference steps → steps ≤ 514
  pub point : MayTake (begun small_start) (event.Point false) 10240
  pub point_no_more : (steps : ℕ) → AreFew 4 (IsTable (begun small_start) (space_at 0x1000))
      → MayTake (begun small_start) (event.Point false) steps → steps ≤ 10240
  pub no_processor : MayTake (begun empty_start) (event.Point true) 0
  pub no_processor_no_more : MayTake (begun empty_start) (event.Point true) 1 → ⊥
  pub machine : FiveAtMost (event.Machine (machine_of 46 false))
  pub cpu : FiveAtMost (event.Cpu 2 small_regs)
  pub set : FiveAtMost (event.Set 0 (change.Cr3 0x2000))
  pub invlpg : FiveAtMost (event.Invlpg 0 0x0)
  pub invpcid : FiveAtMost (event.Invpcid 0 2 0 0)
  pub ask : FiveAtMost (event.Ask 0 access.Ur 0x0)
