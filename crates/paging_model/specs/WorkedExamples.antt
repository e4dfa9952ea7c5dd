-- Examples that pin the definitions: their values were worked out from the manual by hand.
-- The small memory: a PML4 at 0x1000, a PDPT at 0x2000, a PD at 0x3000 and a PT at 0x4000, which maps the page 0x0 to
-- 0x5000 and the page 0x1000, without writes, to 0x6000; known up to 0x10000.
use Rattle.std.specs.Prelude.{◌≡◌, ℕ, ◌+◌, ◌-◌, ◌/◌, ◌%◌, ◌^◌, ◌&&◌, true, false, Some, None, Ok, Err, [], ◌∷◌, nat_le, nat_lt, if◌then◌else◌}
use Rattle.paging_model.specs.Memory.{Memory, byte_in, number_at}
use Rattle.paging_model.specs.Registers.{pcid_of, root_of}
use Rattle.paging_model.specs.RegisterRules.{check_of, change_of, after_change}
use Rattle.paging_model.specs.LinearAddress.{is_canonical, index, IsPage}
use Rattle.paging_model.specs.Entries.{entry_of, joined_bits}
use Rattle.paging_model.specs.Walking.{walk}
use Rattle.paging_model.specs.AccessRights.{is_granted, denial_of}
use Rattle.paging_model.specs.Pointers.{aim_of}
use Rattle.paging_model.specs.declared.access.Access.TheVariants as access
use Rattle.paging_model.specs.declared.access.Rule.TheVariants as rules
use Rattle.paging_model.specs.declared.access.AimRule.TheVariants as aims
use Rattle.paging_model.specs.declared.registers.Machine.{Machine}
use Rattle.paging_model.specs.declared.registers.Settings.{Settings}
use Rattle.paging_model.specs.declared.registers.Regs.{Regs}
use Rattle.paging_model.specs.declared.registers.RegChange.TheVariants as change
use Rattle.paging_model.specs.declared.registers.RegRule.TheVariants as rule
use Rattle.paging_model.specs.declared.entries.Bits.{Bits}
use Rattle.paging_model.specs.declared.entries.Entry.TheVariants as entry
use Rattle.paging_model.specs.declared.walks.Walk.TheVariants as walked

-- the eight bytes of a number at an address, over other memory
abbrev pub with_entry : ℕ → ℕ → Memory → Memory
with_entry at value memory a =
    if nat_le at a && nat_lt a (at + 8) then Some (value / 256 ^ (a - at) % 256) else memory a

abbrev pub zeros_below : ℕ → Memory
zeros_below limit a = if nat_lt a limit then Some 0 else None

abbrev pub small_memory : Memory
small_memory = with_entry 0x1000 0x2007 (with_entry 0x2000 0x3007 (with_entry 0x3000 0x4007 (with_entry 0x4000 0x5007 (with_entry 0x4008 0x6005 (zeros_below 0x10000)))))

abbrev pub small_regs : Regs
small_regs = record { cr0 = 0x80010001; cr3 = 0x1000; cr4 = 0x20; efer = 0xd00; ac = false; pkru = 0; pkrs = 0 }

abbrev pub all : Bits
all = record { write = true; user = true; xd = false }

abbrev pub no_write : Bits
no_write = record { write = false; user = true; xd = false }

-- the first extent that covers a byte decides, and two bytes make a number only where both are known
pub record OfMemory : Type 0 where
  pub first_wins : byte_in (record { start = 4; bytes = 1 ∷ 2 ∷ [] } ∷ record { start = 5; bytes = 8 ∷ 9 ∷ [] } ∷ []) 5 ≡ Some 2
  pub after : byte_in (record { start = 4; bytes = 1 ∷ 2 ∷ [] } ∷ record { start = 5; bytes = 8 ∷ 9 ∷ [] } ∷ []) 6 ≡ Some 9
  pub outside : byte_in (record { start = 4; bytes = 1 ∷ 2 ∷ [] } ∷ record { start = 5; bytes = 8 ∷ 9 ∷ [] } ∷ []) 7 ≡ None
  pub little : number_at (byte_in (record { start = 4; bytes = 1 ∷ 2 ∷ [] } ∷ [])) 2 4 ≡ Some 513
  pub unknown : number_at (byte_in (record { start = 4; bytes = 1 ∷ 2 ∷ [] } ∷ [])) 2 5 ≡ None

pub record OfAddresses : Type 0 where
  pub low_end : is_canonical false 0x7fffffffffff ≡ true
  pub hole : is_canonical false 0x800000000000 ≡ false
  pub high_end : is_canonical false 0xffff800000000000 ≡ true
  pub five_levels : is_canonical true 0x800000000000 ≡ true
  pub five_levels_hole : is_canonical true 0x100000000000000 ≡ false
  pub index_1 : index 1 0x1ff000 ≡ 511
  pub index_5 : index 5 0xffff000000000000 ≡ 511
  pub last_page : IsPage false 0xfffffffffffff000
  pub page_of_the_hole : IsPage false 0x1000000000000 → ⊥
  pub past_the_last_page : IsPage false 0x10000000000000000 → ⊥
  pub within_a_page : IsPage false 0x1800 → ⊥

-- of registers with a physical width of 40
pub record OfRegisters (machine : Machine) : Type 0 where
  pub accepted : check_of machine small_regs ≡ Ok tt
  pub paging_off : check_of machine (record small_regs { cr0 = 0x80010000 }) ≡ Err rule.PagingOff
  pub not_long : check_of machine (record small_regs { efer = 0x900 }) ≡ Err rule.NotLong
  pub no_pae : check_of machine (record small_regs { cr4 = 0 }) ≡ Err rule.NoPae
  pub past_the_width : check_of machine (record small_regs { cr3 = 0x10000001000 }) ≡ Err rule.Cr3Reserved
  pub masking_bits : check_of machine (record small_regs { cr3 = 0x6000000000001000 }) ≡ Ok tt
  pub pcid : pcid_of (record small_regs { cr3 = 0x1fff; cr4 = 0x20020 }) ≡ 0xfff
  pub pcid_off : pcid_of (record small_regs { cr3 = 0x1fff }) ≡ 0
  pub root : root_of (record small_regs { cr3 = 0x6000000000001fff }) machine ≡ 0x1000

-- of changes with a physical width of 40
pub record OfChanges (machine : Machine) : Type 0 where
  pub paging_off : change_of machine (change.Cr0 0x10001) small_regs ≡ Err rule.PagingOff
  pub not_long : change_of machine (change.Efer 0x900) small_regs ≡ Err rule.NotLong
  pub no_pae : change_of machine (change.Cr4 0x1000) small_regs ≡ Err rule.NoPae
  pub la57_changed : change_of machine (change.Cr4 0x21020) (record small_regs { cr3 = 0x1001 }) ≡ Err rule.La57Changed
  pub pcid_not_zero : change_of machine (change.Cr4 0x20020) (record small_regs { cr3 = 0x1001 }) ≡ Err rule.PcidNotZero
  pub pcids_already_on : change_of machine (change.Cr4 0x200a0) (record small_regs { cr3 = 0x1001; cr4 = 0x20020 }) ≡ Ok tt
  pub keep_bit_without_pcid : change_of machine (change.Cr3 0x8000010000001000) small_regs ≡ Err rule.KeepBitWithoutPcid
  pub past_the_width : change_of machine (change.Cr3 0x10000001000) small_regs ≡ Err rule.Cr3Reserved
  pub keep_bit : after_change machine (change.Cr3 0xe000000000002001) (record small_regs { cr4 = 0x20020 }) ≡ record small_regs { cr3 = 0x6000000000002001; cr4 = 0x20020 }
  pub refused : after_change machine (change.Cr4 0) small_regs ≡ small_regs

-- of settings with a physical width of 40, 1-GByte pages, 4 levels and execute-disable
pub record OfEntries (settings : Settings) : Type 0 where
  pub absent : entry_of 2 settings 0x4020e6 ≡ entry.Absent
  pub low_frame_bit : entry_of 2 settings 0x4020e7 ≡ entry.Reserved
  pub pat_of_a_large_page : entry_of 2 settings 0x4010e7 ≡ entry.Leaf 0x400000 all 0 false
  pub gigabyte : entry_of 3 settings 0x400000e7 ≡ entry.Leaf 0x40000000 all 0 false
  pub page_size_at_4 : entry_of 4 settings 0x2087 ≡ entry.Reserved
  pub past_the_width : entry_of 1 settings 0x10000005007 ≡ entry.Reserved
  pub key_and_global : entry_of 1 settings 0x1800000000005107 ≡ entry.Leaf 0x5000 all 3 true
  pub execute_disable : entry_of 4 settings 0x8000000000002003 ≡ entry.Table 0x2000 (record { write = true; user = false; xd = true })
  pub without_gigabytes : entry_of 3 (record settings { big = false }) 0x400000e7 ≡ entry.Reserved
  pub without_nxe : entry_of 1 (record settings { nxe = false }) 0x8000000000005007 ≡ entry.Reserved
  pub joins : joined_bits (record { write = true; user = false; xd = false }) (record { write = false; user = true; xd = true }) ≡ record { write = false; user = false; xd = true }

pub record OfWalks (settings : Settings) : Type 0 where
  pub mapped : walk small_memory settings 0x1000 0x1234 ≡ walked.Mapped (record { frame = 0x6000; level = 1; bits = no_write; key = 0; global = false })
  pub absent_1 : walk small_memory settings 0x1000 0x2000 ≡ walked.Absent 1
  pub absent_2 : walk small_memory settings 0x1000 0x200000 ≡ walked.Absent 2
  pub unknown : walk small_memory settings 0x10000 0x0 ≡ walked.Unknown 4
  pub large : walk (with_entry 0x3000 0x4010e7 small_memory) settings 0x1000 0x1234 ≡ walked.Mapped (record { frame = 0x401000; level = 2; bits = all; key = 0; global = false })
  pub five_levels : walk (with_entry 0x7000 0x1007 small_memory) (record settings { la57 = true }) 0x7000 0x0 ≡ walked.Mapped (record { frame = 0x5000; level = 1; bits = all; key = 0; global = false })
  pub five_levels_absent : walk (with_entry 0x7000 0x1007 small_memory) (record settings { la57 = true }) 0x7000 0x800000000000 ≡ walked.Absent 4

-- of the small registers, with these changes
pub record OfRights : Type 0 where
  pub read_only : denial_of small_regs access.Sw no_write 0 ≡ Some rules.Write
  pub without_wp : denial_of (record small_regs { cr0 = 0x80000001 }) access.Sw no_write 0 ≡ None
  pub user_without_wp : denial_of (record small_regs { cr0 = 0x80000001 }) access.Uw no_write 0 ≡ Some rules.Write
  pub smep : denial_of (record small_regs { cr4 = 0x300020 }) access.Sx all 0 ≡ Some rules.Smep
  pub smap : denial_of (record small_regs { cr4 = 0x300020 }) access.Sr all 0 ≡ Some rules.Smap
  pub smap_with_ac : denial_of (record small_regs { cr4 = 0x300020; ac = true }) access.Sr all 0 ≡ None
  pub implicit_with_ac : denial_of (record small_regs { cr4 = 0x300020; ac = true }) access.Ir all 0 ≡ Some rules.Smap
  pub supervisor_page : denial_of small_regs access.Ur (record { write = true; user = false; xd = false }) 0 ≡ Some rules.User
  pub key_access : denial_of (record small_regs { cr4 = 0x400020; pkru = 0x40 }) access.Sr all 3 ≡ Some rules.Key
  pub key_fetch : denial_of (record small_regs { cr4 = 0x400020; pkru = 0x40 }) access.Ux all 3 ≡ None
  pub key_write : denial_of (record small_regs { cr4 = 0x400020; pkru = 0x80 }) access.Uw all 3 ≡ Some rules.Key
  pub key_write_without_wp : denial_of (record small_regs { cr0 = 0x80000001; cr4 = 0x400020; pkru = 0x80 }) access.Sw all 3 ≡ None
  pub granted : is_granted small_regs access.Ux all 0 ≡ true

pub record OfPointers : Type 0 where
  pub unmasked : aim_of small_regs access.Ur 0x7fff000000000000 ≡ Err aims.NotCanonical
  pub user_48 : aim_of (record small_regs { cr3 = 0x4000000000001000 }) access.Ur 0x7fff000000000000 ≡ Ok 0
  pub fetch : aim_of (record small_regs { cr3 = 0x4000000000001000 }) access.Ux 0x7fff000000000000 ≡ Err aims.NotCanonical
  pub user_57_alone : aim_of (record small_regs { cr3 = 0x2000000000001000 }) access.Ur 0x4000000000000 ≡ Err aims.NotCanonical
  pub supervisor : aim_of (record small_regs { cr4 = 0x10000020 }) access.Sr 0x80ff800000000000 ≡ Ok 0xffff800000000000
  pub top_bit_differs : aim_of (record small_regs { cr4 = 0x10000020 }) access.Sr 0x80ff000000000000 ≡ Err aims.NotCanonical
  pub lass_fetch : aim_of (record small_regs { cr4 = 0x8000020 }) access.Sx 0x0 ≡ Err aims.Lass
  pub lass_user : aim_of (record small_regs { cr4 = 0x8000020 }) access.Ur 0xffff800000000000 ≡ Err aims.Lass
  pub lass_read : aim_of (record small_regs { cr4 = 0x8000020 }) access.Sr 0x0 ≡ Ok 0
