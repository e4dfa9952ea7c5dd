-- The registers that paging goes by: their bits, each named once, and what they set.
-- SDM 3A, "Control Registers" and "Paging Modes and Control Bits"; "Hierarchical Paging Structures: an Overview" for
-- the root; "Process-Context Identifiers" for the PCID.
use Rattle.std.specs.Prelude.{ℕ, ◌-◌, min, max, Bool, if◌then◌else◌}
use Rattle.std.proofs.Math.Nat.{le-max_left, max-le, min-le_right}
use Rattle.std.proofs.Common.{lit≤}
use Rattle.paging_model.specs.BitRanges.{bit, field, in_place}
use Rattle.paging_model.specs.declared.registers.Machine.{Machine}
use Rattle.paging_model.specs.declared.registers.Settings.{Settings}
use Rattle.paging_model.specs.declared.registers.Regs.{Regs}

-- CR0.PE: protection
abbrev pub pe : Regs → Bool
pe regs = bit regs.cr0 0

-- CR0.WP: supervisor writes go by R/W
abbrev pub wp : Regs → Bool
wp regs = bit regs.cr0 16

-- CR0.PG: paging
abbrev pub pg : Regs → Bool
pg regs = bit regs.cr0 31

-- CR3.LAM_U57: masking of user pointers to 57 bits
abbrev pub lam_u57 : Regs → Bool
lam_u57 regs = bit regs.cr3 61

-- CR3.LAM_U48: masking of user pointers to 48 bits
abbrev pub lam_u48 : Regs → Bool
lam_u48 regs = bit regs.cr3 62

-- CR4.PAE: physical-address extension
abbrev pub pae : Regs → Bool
pae regs = bit regs.cr4 5

-- CR4.PGE: global pages
abbrev pub pge : Regs → Bool
pge regs = bit regs.cr4 7

-- CR4.LA57: 5-level paging
abbrev pub la57 : Regs → Bool
la57 regs = bit regs.cr4 12

-- CR4.PCIDE: process-context identifiers
abbrev pub pcide : Regs → Bool
pcide regs = bit regs.cr4 17

-- CR4.SMEP: supervisor-mode execution prevention
abbrev pub smep : Regs → Bool
smep regs = bit regs.cr4 20

-- CR4.SMAP: supervisor-mode access prevention
abbrev pub smap : Regs → Bool
smap regs = bit regs.cr4 21

-- CR4.PKE: protection keys of user pages
abbrev pub pke : Regs → Bool
pke regs = bit regs.cr4 22

-- CR4.PKS: protection keys of supervisor pages
abbrev pub pks : Regs → Bool
pks regs = bit regs.cr4 24

-- CR4.LASS: linear-address space separation
abbrev pub lass : Regs → Bool
lass regs = bit regs.cr4 27

-- CR4.LAM_SUP: masking of supervisor pointers
abbrev pub lam_sup : Regs → Bool
lam_sup regs = bit regs.cr4 28

-- EFER.LME: IA-32e mode enabled
abbrev pub lme : Regs → Bool
lme regs = bit regs.efer 8

-- EFER.LMA: IA-32e mode active
abbrev pub lma : Regs → Bool
lma regs = bit regs.efer 10

-- EFER.NXE: execute-disable
abbrev pub nxe : Regs → Bool
nxe regs = bit regs.efer 11

-- RFLAGS: the bit that lets explicit supervisor data accesses pass SMAP
abbrev pub alignment_check : ℕ → Bool
alignment_check rflags = bit rflags 18

-- the machine with a physical width and with 1-GByte pages or without; a width outside 32 to 52 is held to the nearer end
abbrev pub machine_of : ℕ → Bool → Machine
machine_of m big = record {
  m = max 32 (min m 52);
  big = big;
  least = le-max_left 32 (min m 52);
  most = max-le (lit≤ tt) (min-le_right m 52);
}

-- the physical address of the top table: CR3 bits M-1:12
abbrev pub root_of : Regs → Machine → ℕ
root_of regs machine = in_place regs.cr3 (machine.m - 1) 12

-- the current PCID: CR3 bits 11:0 with PCIDs, else 0
abbrev pub pcid_of : Regs → ℕ
pcid_of regs = if pcide regs then field regs.cr3 11 0 else 0

-- what the meaning of an entry and the length of a walk depend on
abbrev pub settings_of : Regs → Machine → Settings
settings_of regs machine = record {
  m = machine.m;
  big = machine.big;
  la57 = la57 regs;
  nxe = nxe regs;
  least = machine.least;
  most = machine.most;
}
