-- Examples that pin which spaces are kept, and what a write touches of one: worked out by hand.
use Rattle.std.specs.Prelude.{◌≡◌, ℕ, zero, suc, ◌-◌, ◌*◌, false, List, [], ◌∷◌, Some}
use Rattle.paging_model.specs.Memory.{Memory}
use Rattle.paging_model.specs.WorkedExamples.{small_memory, small_regs, all, with_entry}
use Rattle.paging_model.specs.WorkedSpaces.{small_settings}
use Rattle.paging_model.specs.declared.registers.RegChange.TheVariants as change
use Rattle.paging_model.specs.declared.registers.Regs.{Regs}
use Rattle.paging_model.specs.declared.spaces.SpaceKey.{SpaceKey}
use Rattle.paging_model.specs.declared.spaces.TableUse.{TableUse}
use Rattle.history_model.specs.History.{Start, History, begun, next, memory, machine, regs}
use Rattle.history_model.specs.KeptSpaces.{listed_first, space_of, TooLargeIn, WithinIn, StayKept, AreKept, IsWrittenSlot, slots_written, IsTouched, IsWrittenEntry}
use Rattle.history_model.specs.WorkedHistories.{small_start, processor, zeros}
use Rattle.history_model.specs.declared.events.Event.TheVariants as event

-- the space at a root
abbrev pub space_at : ℕ → SpaceKey
space_at root = record { root = root; settings = small_settings }

-- the space at a root, without XD
abbrev pub space_without_nxe : ℕ → SpaceKey
space_without_nxe root = record { root = root; settings = record small_settings { nxe = false } }

-- so many spaces, by the pages of their roots from one down
abbrev pub spaces_down : ℕ → ℕ → List SpaceKey
spaces_down page zero = []
spaces_down page (suc n) = space_at (page * 4096) ∷ spaces_down (page - 1) n

-- a space that is listed comes first, once; of sixteen, the one that was listed longest ago goes for another
pub record OfListedSpaces : Type 0 where
  pub listed_again : listed_first (space_at 0x1000) (space_at 0x2000 ∷ space_at 0x1000 ∷ [])
      ≡ space_at 0x1000 ∷ space_at 0x2000 ∷ []
  pub other_settings : listed_first (space_at 0x1000) (space_without_nxe 0x1000 ∷ [])
      ≡ space_at 0x1000 ∷ space_without_nxe 0x1000 ∷ []
  pub sixteenth : listed_first (space_at 0x10000) (spaces_down 15 15) ≡ spaces_down 16 16
  pub seventeenth : listed_first (space_at 0x11000) (spaces_down 16 16) ≡ spaces_down 17 16

-- processors whose tables aren't known: their spaces have one use and no page, and so are within the limits
abbrev pub unknown_start : Start
unknown_start = record small_start {
  processors = processor 0 (record small_regs { cr3 = 0x8000 }) ∷ processor 1 (record small_regs { cr3 = 0x8000 }) ∷ [];
}

-- the space of processor 0 is listed
abbrev pub list_of_one : History
list_of_one = next (begun unknown_start) (event.List 0)

-- then that at another root
abbrev pub list_of_two : History
list_of_two = next (next list_of_one (event.Set 0 (change.Cr3 0x9000))) (event.List 0)

-- then that at the first root again
abbrev pub list_of_first : History
list_of_first = next (next list_of_two (event.Set 0 (change.Cr3 0x8000))) (event.List 0)

-- then the same space, of processor 1
abbrev pub list_of_another_processor : History
list_of_another_processor = next list_of_first (event.List 1)

-- then, of processor 0, that without XD
abbrev pub list_of_three : History
list_of_three = next (next list_of_another_processor (event.Set 0 (change.Efer 0x500))) (event.List 0)

-- then memory is written
abbrev pub list_and_write : History
list_and_write = next list_of_three (event.Write 0x4008 zeros)

-- a list puts its space first, and each other event leaves the spaces as they are
pub record OfKeptSpaces : Type 0 where
  pub none : AreKept (begun unknown_start) []
  pub one : AreKept list_of_one (space_at 0x8000 ∷ [])
  pub two : AreKept list_of_two (space_at 0x9000 ∷ space_at 0x8000 ∷ [])
  pub first_again : AreKept list_of_first (space_at 0x8000 ∷ space_at 0x9000 ∷ [])
  pub another_processor : AreKept list_of_another_processor (space_at 0x8000 ∷ space_at 0x9000 ∷ [])
  pub three : AreKept list_of_three (space_without_nxe 0x8000 ∷ space_at 0x8000 ∷ space_at 0x9000 ∷ [])
  pub after_a_write : AreKept list_and_write (space_without_nxe 0x8000 ∷ space_at 0x8000 ∷ space_at 0x9000 ∷ [])
  pub no_others : (keys : List SpaceKey) → AreKept list_and_write keys
      → keys ≡ space_without_nxe 0x8000 ∷ space_at 0x8000 ∷ space_at 0x9000 ∷ []

-- a space that is too large isn't kept by a list, and goes by the write that makes it so
pub record OfLargeSpaces : Type 0 where
  pub by_a_list : (history : History) (cpu : ℕ) (known : Regs) (keys : List SpaceKey) → regs history cpu ≡ Some known
      → TooLargeIn (memory history) (space_of (machine history) known) → AreKept history keys
      → AreKept (next history (event.List cpu)) keys
  pub by_a_list_alone : (history : History) (cpu : ℕ) (known : Regs) (keys : List SpaceKey) → regs history cpu ≡ Some known
      → (WithinIn (memory history) (space_of (machine history) known) → ⊥) → AreKept (next history (event.List cpu)) keys
      → AreKept history keys
  pub by_a_write : (history : History) (at : ℕ) (bytes : List ℕ) (key : SpaceKey)
      → TooLargeIn (memory (next history (event.Write at bytes))) key → AreKept history (key ∷ [])
      → AreKept (next history (event.Write at bytes)) []
  pub by_a_write_alone : (history : History) (at : ℕ) (bytes : List ℕ) (key : SpaceKey) (keys : List SpaceKey)
      → (WithinIn (memory (next history (event.Write at bytes))) key → ⊥)
      → ((earlier : List SpaceKey) → AreKept history earlier → earlier ≡ key ∷ [])
      → AreKept (next history (event.Write at bytes)) keys → keys ≡ []
  pub others_stay : (memory : Memory) (first large last : SpaceKey) → WithinIn memory first → TooLargeIn memory large
      → WithinIn memory last → StayKept memory (first ∷ large ∷ last ∷ []) (first ∷ last ∷ [])

-- a write of eight bytes over two slots, and one of a slot alone
pub record OfWrittenSlots : Type 0 where
  pub two : slots_written 0x4004 8 ≡ 2
  pub first : IsWrittenSlot 0x4004 8 0x4000
  pub second : IsWrittenSlot 0x4004 8 0x4008
  pub none_before : IsWrittenSlot 0x4004 8 0x3ff8 → ⊥
  pub none_after : IsWrittenSlot 0x4004 8 0x4010 → ⊥
  pub none_between : IsWrittenSlot 0x4004 8 0x4004 → ⊥
  pub one : slots_written 0x4008 8 ≡ 1
  pub itself : IsWrittenSlot 0x4008 8 0x4008
  pub not_the_last : IsWrittenSlot 0x4008 8 0x4000 → ⊥
  pub not_the_next : IsWrittenSlot 0x4008 8 0x4010 → ⊥

-- memory after the PML4 references itself: its addresses from 0xffff800000000000 on are those of the tables
abbrev pub self_reference : Memory
self_reference = with_entry 0x1800 0x1007 small_memory

-- memory after the last table is referenced a second time, from 0x200000 on
abbrev pub second_reference : Memory
second_reference = with_entry 0x3008 0x4007 small_memory

-- memory after the last table isn't referenced
abbrev pub no_reference : Memory
no_reference = with_entry 0x3000 0 small_memory

-- memory after the high half of an entry and the low half of the next one
abbrev pub two_halves : Memory
two_halves = with_entry 0x4004 0 small_memory

-- a table with all rights
abbrev pub use_at : ℕ → ℕ → ℕ → TableUse
use_at level prefix frame = record { level = level; prefix = prefix; frame = frame; bits = all }

-- an eight-byte write touches a use that it reaches at any level above, and not a use by the entries of its own table
pub record OfTouchedUses : Type 0 where
  pub by_two_levels : IsTouched self_reference (space_at 0x1000) 0x1800 8 (use_at 1 0xffff804020000000 0x1000)
  pub by_the_top : IsTouched self_reference (space_at 0x1000) 0x1800 8 (use_at 1 0xffff800000000000 0x3000)
  pub other_half : IsTouched self_reference (space_at 0x1000) 0x1800 8 (use_at 1 0 0x4000) → ⊥
  pub root : IsTouched self_reference (space_at 0x1000) 0x1800 8 (use_at 4 0 0x1000) → ⊥
  pub root_of_its_entry : IsTouched small_memory (space_at 0x1000) 0x1000 8 (use_at 4 0 0x1000) → ⊥
  pub other_reference : IsTouched second_reference (space_at 0x1000) 0x3008 8 (use_at 1 0x200000 0x4000)
  pub first_reference : IsTouched second_reference (space_at 0x1000) 0x3008 8 (use_at 1 0 0x4000) → ⊥
  pub no_longer : IsTouched no_reference (space_at 0x1000) 0x3000 8 (use_at 1 0 0x4000) → ⊥
  pub again : IsTouched small_memory (space_at 0x1000) 0x3000 8 (use_at 1 0 0x4000)
  pub own_entries : IsTouched two_halves (space_at 0x1000) 0x4004 8 (use_at 1 0 0x4000) → ⊥

-- each slot that is written is an entry of each use of its table, and of no other one
pub record OfWrittenEntries : Type 0 where
  pub first : IsWrittenEntry two_halves (space_at 0x1000) 0x4004 8 (use_at 1 0 0x4000, 0x4000)
  pub second : IsWrittenEntry two_halves (space_at 0x1000) 0x4004 8 (use_at 1 0 0x4000, 0x4008)
  pub none_before : IsWrittenEntry two_halves (space_at 0x1000) 0x4004 8 (use_at 1 0 0x4000, 0x3ff8) → ⊥
  pub none_after : IsWrittenEntry two_halves (space_at 0x1000) 0x4004 8 (use_at 1 0 0x4000, 0x4010) → ⊥
  pub other_table : IsWrittenEntry two_halves (space_at 0x1000) 0x4004 8 (use_at 2 0 0x3000, 0x4000) → ⊥
  pub root : IsWrittenEntry self_reference (space_at 0x1000) 0x1800 8 (use_at 4 0 0x1000, 0x1800)
  pub last : IsWrittenEntry self_reference (space_at 0x1000) 0x1800 8 (use_at 1 0xffff804020000000 0x1000, 0x1800)
  pub no_use : IsWrittenEntry no_reference (space_at 0x1000) 0x4008 8 (use_at 1 0 0x4000, 0x4008) → ⊥
