-- What a processor may hold of the paging structures, and what of it it may use.
-- SDM 3A, "Caching Translation Information": TLBs and paging-structure caches, and their use.
use Rattle.std.specs.Prelude.{◌≡◌, ℕ, suc, ◌+◌, ◌*◌, ◌/◌, ◌%◌, ◌&&◌, ◌⊎◌, Bool, true, false, Option, Some, None, option_and_then}
use Rattle.paging_model.specs.Memory.{Memory}
use Rattle.paging_model.specs.Registers.{pcid_of, pge, root_of, settings_of}
use Rattle.paging_model.specs.LinearAddress.{span}
use Rattle.paging_model.specs.Entries.{joined_bits, root_bits}
use Rattle.paging_model.specs.Walking.{entry_read, top_level}
use Rattle.paging_model.specs.Counting.{IsIn}
use Rattle.paging_model.specs.declared.registers.Machine.{Machine}
use Rattle.paging_model.specs.declared.registers.Regs.{Regs}
use Rattle.paging_model.specs.declared.entries.Bits.{Bits}
use Rattle.paging_model.specs.declared.entries.Entry.{Entry}
use Rattle.paging_model.specs.declared.entries.Entry.TheVariants as entry
use Rattle.history_model.specs.History.{History, next, memory, machine, regs, visited_pcids}
use Rattle.history_model.specs.Invalidations.{kills}
use Rattle.history_model.specs.declared.caches.CacheKey.{CacheKey}
use Rattle.history_model.specs.declared.events.Event.{Event}

-- what is held of an entry that serves an address: the translation of a page (a leaf), or the reference of a table; with
-- the bits that were joined down to it
pub record Held : Type 0 where
  pub leaf : Bool
  pub frame : ℕ
  pub bits : Bits
  pub key : ℕ
  pub global : Bool

-- what is held of an entry under joined bits; G counts where CR4.PGE is 1, and of pages alone. An entry that isn't
-- present, or that has a reserved bit set, isn't cached.
abbrev pub held_of : Bool → Bits → Entry → Option Held
held_of pge above entry.Absent = None
held_of pge above entry.Reserved = None
held_of pge above (entry.Table frame bits) =
    Some (record { leaf = false; frame = frame; bits = joined_bits above bits; key = 0; global = false })
held_of pge above (entry.Leaf frame bits key global) =
    Some (record { leaf = true; frame = frame; bits = joined_bits above bits; key = key; global = global && pge })

-- what a processor with these registers makes of the entry of a level that serves x, in a table under joined bits
unfoldable pub fill_of : Memory → Machine → Regs → ℕ → ℕ → ℕ → Bits → Option Held
fill_of memory machine known level x table above =
    option_and_then (λ read. held_of (pge known) above read) (entry_read memory (settings_of known machine) level x table)

-- the first address that an entry of a level serves, with x
abbrev pub prefix_of : ℕ → ℕ → ℕ
prefix_of level x = x / span level * span level

-- what an invalidation tests
abbrev pub cache_key : ℕ → ℕ → ℕ → Held → CacheKey
cache_key c level x held =
    record { pcid = c; level = level; prefix = prefix_of level x; leaf = held.leaf; global = held.global }

-- an entry of a level that processor p may hold under PCID c for x
pub data MayHold : History → ℕ → ℕ → ℕ → ℕ → Held → Type 0 where
  -- it was held before an event that doesn't remove it
  kept : {before : History} (happened : Event) {p c level x : ℕ} {held : Held} {known : Regs}
      → MayHold before p c level x held
      → regs before p ≡ Some known
      → kills happened p known (cache_key c level x held) ≡ false
      → MayHold (next before happened) p c level x held
  -- it is made under the current PCID from the entry of the top table
  at_root : {history : History} {p c level x : ℕ} {held : Held} {known : Regs}
      → regs history p ≡ Some known
      → c ≡ pcid_of known
      → level ≡ top_level (settings_of known (machine history))
      → fill_of (memory history) (machine history) known level x (root_of known (machine history)) root_bits ≡ Some held
      → MayHold history p c level x held
  -- it is made under the current PCID from the entry of a table that a held entry references, whether or not that entry
  -- still stands in memory
  below : {history : History} {p c level x : ℕ} {held : Held} {known : Regs} (above : Held)
      → regs history p ≡ Some known
      → c ≡ pcid_of known
      → MayHold history p c (suc level) x above
      → above.leaf ≡ false
      → fill_of (memory history) (machine history) known level x above.frame above.bits ≡ Some held
      → MayHold history p c level x held

-- a translation of a page that processor p may use under PCID c: it is held under c, or it is global and held under a
-- PCID that p visited
pub record MayUse (history : History) (p c level page : ℕ) (held : Held) : Type 0 where
  pub leaf : held.leaf ≡ true
  pub under : ℕ
  pub reaches : (under ≡ c) ⊎ ((held.global ≡ true) × IsIn under (visited_pcids history p))
  pub held_there : MayHold history p under level page held

-- the frame of a page in a translation of a level
abbrev pub frame_at : ℕ → ℕ → Held → ℕ
frame_at level page held = held.frame + page % span level
