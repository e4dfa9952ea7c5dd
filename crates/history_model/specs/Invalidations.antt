-- What an event removes of what a processor holds: a row of the table each.
-- SDM 3A, "Operations that Invalidate TLBs and Paging-Structure Caches"; SDM 2, "INVLPG" and "INVPCID".
use Rattle.std.specs.Prelude.{ℕ, ◌+◌, ◌==◌, ◌&&◌, ◌||◌, not, Bool, true, false, if◌then◌else◌, nat_le, nat_lt}
use Rattle.paging_model.specs.BitRanges.{bit, field, differs}
use Rattle.paging_model.specs.Registers.{pcid_of, pcide, pge, smep, la57}
use Rattle.paging_model.specs.LinearAddress.{is_canonical, span}
use Rattle.paging_model.specs.declared.registers.Regs.{Regs}
use Rattle.paging_model.specs.declared.registers.RegChange.{RegChange}
use Rattle.paging_model.specs.declared.registers.RegChange.TheVariants.{Cr3, Cr4}
use Rattle.history_model.specs.declared.caches.CacheKey.{CacheKey}
use Rattle.history_model.specs.declared.events.Event.{Event}
use Rattle.history_model.specs.declared.events.Event.TheVariants as event

-- the entry serves the address
abbrev pub key_covers : CacheKey → ℕ → Bool
key_covers key address = nat_le key.prefix address && nat_lt address (key.prefix + span key.level)

-- a translation that may be used under every PCID
abbrev pub is_global_leaf : CacheKey → Bool
is_global_leaf key = key.leaf && key.global

-- of a PCID, and no global translation
abbrev pub is_of : ℕ → CacheKey → Bool
is_of pcid key = key.pcid == pcid && not (is_global_leaf key)

-- INVLPG: translations of the address, of the current PCID or global; each paging-structure-cache entry of the current
-- PCID, whatever it serves; with an address that isn't canonical nothing
abbrev pub invlpg_kills : ℕ → Regs → CacheKey → Bool
invlpg_kills address before key =
    is_canonical (la57 before) address
    && (if key.leaf then key_covers key address && (key.pcid == pcid_of before || key.global) else key.pcid == pcid_of before)

-- INVPCID of type 0: one address of a PCID, where it is canonical; 1: a PCID; 2: everything; 3: everything but global
-- translations
abbrev pub invpcid_kills : ℕ → ℕ → ℕ → Regs → CacheKey → Bool
invpcid_kills kind pcid address before key =
    if kind == 0 then is_canonical (la57 before) address && is_of pcid key && key_covers key address else
    (if kind == 1 then is_of pcid key else
    (if kind == 2 then true else
    (if kind == 3 then not (is_global_leaf key) else false)))

-- bit 63 of a value for CR3: what is held stays
abbrev pub keeps_all : ℕ → Bool
keeps_all value = bit value 63

-- MOV to CR3: the PCID that it selects, but nothing where bit 63 is 1; without PCIDs it is PCID 0
abbrev pub cr3_kills : ℕ → Regs → CacheKey → Bool
cr3_kills value before key =
    if not (pcide before) then is_of 0 key else (if keeps_all value then false else is_of (field value 11 0) key)

-- MOV to CR4 that changes PGE or clears PCIDE
abbrev pub empties : ℕ → Regs → Bool
empties value before =
    differs (pge (record before { cr4 = value })) (pge before) || (pcide before && not (pcide (record before { cr4 = value })))

-- MOV to CR4: everything where PGE changes or PCIDE is cleared; where SMEP is set, everything of the current PCID
abbrev pub cr4_kills : ℕ → Regs → CacheKey → Bool
cr4_kills value before key =
    empties value before || (smep (record before { cr4 = value }) && not (smep before) && key.pcid == pcid_of before)

-- a change of one register; only CR3 and CR4 remove anything
abbrev pub change_kills : RegChange → Regs → CacheKey → Bool
change_kills (Cr3 value) before key = cr3_kills value before key
change_kills (Cr4 value) before key = cr4_kills value before key
change_kills _ before key = false

-- whether an event removes an entry of a processor with these registers before it; only events of that processor do
unfoldable pub kills : Event → ℕ → Regs → CacheKey → Bool
kills (event.Invlpg cpu address) p before key = cpu == p && invlpg_kills address before key
kills (event.Invpcid cpu kind pcid address) p before key = cpu == p && invpcid_kills kind pcid address before key
kills (event.Set cpu change) p before key = cpu == p && change_kills change before key
kills _ p before key = false

-- a change of one register that takes everything; only CR4 does
abbrev pub change_empties : RegChange → Regs → Bool
change_empties (Cr4 value) before = empties value before
change_empties _ before = false

-- whether a processor loses everything: a MOV to CR4 that changes PGE or clears PCIDE, and INVPCID of type 2
abbrev pub loses_all : Event → ℕ → Regs → Bool
loses_all (event.Invpcid cpu kind pcid address) p before = cpu == p && kind == 2
loses_all (event.Set cpu change) p before = cpu == p && change_empties change before
loses_all _ p before = false
