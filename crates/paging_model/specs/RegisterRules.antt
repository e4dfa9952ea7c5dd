-- Which register states and changes are refused: outside 64-bit paging, and with reserved bits.
-- SDM 3A, "Paging-Mode Enabling" and "Control Registers"; "Process-Context Identifiers" for PCIDE and bit 63 of CR3.
use Rattle.std.specs.Prelude.{ℕ, ◌&&◌, ◌||◌, not, Bool, Result, Ok, Err, if◌then◌else◌}
use Rattle.paging_model.specs.BitRanges.{bit, field, some_bit, differs}
use Rattle.paging_model.specs.Registers.{pe, pg, pae, la57, pcide, lme, lma}
use Rattle.paging_model.specs.declared.registers.Machine.{Machine}
use Rattle.paging_model.specs.declared.registers.Regs.{Regs}
use Rattle.paging_model.specs.declared.registers.RegChange.{RegChange}
use Rattle.paging_model.specs.declared.registers.RegChange.TheVariants.{Cr0, Cr3, Cr4, Efer, Ac, Pkru, Pkrs}
use Rattle.paging_model.specs.declared.registers.RegRule.{RegRule}
use Rattle.paging_model.specs.declared.registers.RegRule.TheVariants.{PagingOff, NotLong, NoPae, La57Changed, PcidNotZero, KeepBitWithoutPcid, Cr3Reserved}

-- without protection or paging
abbrev pub paging_off : Regs → Bool
paging_off regs = not (pe regs && pg regs)

-- IA-32e mode not enabled or not active
abbrev pub not_long : Regs → Bool
not_long regs = not (lme regs && lma regs)

-- bits 60:M of CR3, between the root and the bits of linear-address masking
abbrev pub past_the_width : Machine → ℕ → Bool
past_the_width machine cr3 = some_bit cr3 60 machine.m

-- bit 63, and those past the width
abbrev pub cr3_is_reserved : Machine → ℕ → Bool
cr3_is_reserved machine cr3 = bit cr3 63 || past_the_width machine cr3

-- the first rule that a register state breaks
abbrev pub check_of : Machine → Regs → Result (Unit {0}) RegRule
check_of machine regs =
    if paging_off regs then Err PagingOff else
    (if not_long regs then Err NotLong else
    (if not (pae regs) then Err NoPae else
    (if cr3_is_reserved machine regs.cr3 then Err Cr3Reserved else Ok tt)))

-- the registers with one of them changed; bit 63 of a value for CR3 isn't stored
abbrev pub with_change : RegChange → Regs → Regs
with_change (Cr0 value) regs = record regs { cr0 = value }
with_change (Cr3 value) regs = record regs { cr3 = field value 62 0 }
with_change (Cr4 value) regs = record regs { cr4 = value }
with_change (Efer value) regs = record regs { efer = value }
with_change (Ac value) regs = record regs { ac = value }
with_change (Pkru value) regs = record regs { pkru = value }
with_change (Pkrs value) regs = record regs { pkrs = value }

-- a value for CR4 has another LA57
abbrev pub changes_la57 : ℕ → Regs → Bool
changes_la57 cr4 regs = differs (la57 (record regs { cr4 = cr4 })) (la57 regs)

-- a value for CR4 turns PCIDs on while CR3 bits 11:0 aren't 0
abbrev pub starts_with_pcid : ℕ → Regs → Bool
starts_with_pcid cr4 regs = pcide (record regs { cr4 = cr4 }) && not (pcide regs) && some_bit regs.cr3 11 0

-- a value for CR3 has bit 63, which keeps the translations of its PCID, while PCIDs are off
abbrev pub keeps_without_pcid : ℕ → Regs → Bool
keeps_without_pcid cr3 regs = bit cr3 63 && not (pcide regs)

-- the first rule that a change breaks, before it is made
abbrev pub change_of : Machine → RegChange → Regs → Result (Unit {0}) RegRule
change_of machine (Cr0 value) regs = if paging_off (record regs { cr0 = value }) then Err PagingOff else Ok tt
change_of machine (Cr3 value) regs =
    if keeps_without_pcid value regs then Err KeepBitWithoutPcid else
    (if past_the_width machine value then Err Cr3Reserved else Ok tt)
change_of machine (Cr4 value) regs =
    if not (pae (record regs { cr4 = value })) then Err NoPae else
    (if changes_la57 value regs then Err La57Changed else
    (if starts_with_pcid value regs then Err PcidNotZero else Ok tt))
change_of machine (Efer value) regs = if not_long (record regs { efer = value }) then Err NotLong else Ok tt
change_of machine (Ac value) regs = Ok tt
change_of machine (Pkru value) regs = Ok tt
change_of machine (Pkrs value) regs = Ok tt

-- the new registers where no rule is broken, else the old
abbrev pub unless_refused : Result (Unit {0}) RegRule → Regs → Regs → Regs
unless_refused (Ok _) new old = new
unless_refused (Err _) new old = old

-- the registers after a change, or as they were where it is refused
abbrev pub after_change : Machine → RegChange → Regs → Regs
after_change machine change regs = unless_refused (change_of machine change regs) (with_change change regs) regs
