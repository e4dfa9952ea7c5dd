-- A page's protection key is below 16.
use Rattle.std.proofs.Common.{◌≡◌, ℕ, zero, suc, ◌<◌, Bool, true, false, Option, Some, None, arith, ap}
use Rattle.std.specs.Prelude.{if◌then◌else◌}
use Rattle.paging_model.specs.Memory.{Memory, entry_at}
use Rattle.paging_model.specs.Entries.{entry_of, is_global, page_frame, protection_key, table_frame, bits_of, joined_bits, root_bits}
use Rattle.paging_model.specs.Translations.{Target, Protection, raw_target_of}
use Rattle.paging_model.specs.Walking.{walk, walk_from, at_value, at_entry, entry_address, top_level}
use Rattle.paging_model.specs.declared.entries.Bits.{Bits}
use Rattle.paging_model.specs.declared.entries.Entry.{Entry}
use Rattle.paging_model.specs.declared.entries.Entry.TheVariants as entry
use Rattle.paging_model.specs.declared.registers.Settings.{Settings}
use Rattle.paging_model.specs.declared.walks.Walk.{Walk}
use Rattle.paging_model.specs.declared.walks.Walk.TheVariants.{Mapped, Absent, Reserved, Unknown}

-- the key of what a walk ends at, where it is a page's
abbrev HasKey : Walk → Type 0
HasKey (Mapped page) = page.key < 16
HasKey _ = Unit {0}

abbrev HasLeafKey : Entry → Type 0
HasLeafKey (entry.Leaf frame bits key global) = key < 16
HasLeafKey _ = Unit {0}

leaf-key : (absent reserved leaf : Bool) (page table key : ℕ) (bits : Bits) (global : Bool) → key < 16
    → HasLeafKey (if absent then entry.Absent else (if reserved then entry.Reserved else (if leaf then entry.Leaf page bits key global else entry.Table table bits)))
leaf-key true reserved leaf page table key bits global few = tt
leaf-key false true leaf page table key bits global few = tt
leaf-key false false true page table key bits global few = few
leaf-key false false false page table key bits global few = tt

entry-key : (settings : Settings) (level value : ℕ) → HasLeafKey (entry_of level settings value)
unfolding entry_of
entry-key settings level value =
    leaf-key _ _ _ (page_frame level value) (table_frame value) (protection_key value) (bits_of value) (is_global value) (omega arith)

at_entry-key : (below : ℕ → Bits → Walk) (level x : ℕ) (above : Bits) (meaning : Entry) → ((frame : ℕ) (bits : Bits) → HasKey (below frame bits))
    → HasLeafKey meaning → HasKey (at_entry below level x above meaning)
at_entry-key below level x above entry.Absent later few = tt
at_entry-key below level x above entry.Reserved later few = tt
at_entry-key below level x above (entry.Table frame bits) later few = later frame (joined_bits above bits)
at_entry-key below level x above (entry.Leaf frame bits key global) later few = few

at_value-key : (below : ℕ → Bits → Walk) (settings : Settings) (level x : ℕ) (above : Bits) (value : Option ℕ)
    → ((frame : ℕ) (bits : Bits) → HasKey (below frame bits)) → HasKey (at_value below settings level x above value)
at_value-key below settings level x above None later = tt
at_value-key below settings level x above (Some value) later =
    at_entry-key below level x above (entry_of level settings value) later (entry-key settings level value)

walk_from-key : (memory : Memory) (settings : Settings) (level x table : ℕ) (above : Bits) → HasKey (walk_from memory settings level x table above)
unfolding walk_from
walk_from-key memory settings zero x table above = tt
walk_from-key memory settings (suc lower) x table above =
    at_value-key (λ frame bits. walk_from memory settings lower x frame bits) settings (suc lower) x above (entry_at memory (entry_address (suc lower) x table))
    (λ frame bits. walk_from-key memory settings lower x frame bits)

walk-key : (memory : Memory) (settings : Settings) (root x : ℕ) → HasKey (walk memory settings root x)
unfolding walk
walk-key memory settings root x = walk_from-key memory settings (top_level settings) x root root_bits

of_end : (end : Walk) (target : Target Protection) → HasKey end → raw_target_of end ≡ Some target → target.kind.key < 16
of_end (Mapped page) target few is =
    let same : record { frame = page.frame; kind = record { bits = page.bits; key = page.key } } ≡ target = cc in
    let keys : page.key ≡ target.kind.key = ap (λ (it : Target Protection). it.kind.key) same in
    omega arith
of_end (Absent level) target few is = absurd cc
of_end (Reserved level) target few is = absurd cc
of_end (Unknown level) target few is = absurd cc

pub target-key : (memory : Memory) (settings : Settings) (root x : ℕ) (target : Target Protection)
    → raw_target_of (walk memory settings root x) ≡ Some target → target.kind.key < 16
target-key memory settings root x target is = of_end (walk memory settings root x) target (walk-key memory settings root x) is
