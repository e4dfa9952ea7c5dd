-- Tables that serve addresses as they did at each time since the horizon. Our own words.
use Rattle.std.specs.Prelude.{◌≡◌, ℕ, zero, suc, ◌+◌, ◌-◌, ◌*◌, ◌%◌, ◌≤◌, ◌<◌, Bool, true, false, if◌then◌else◌, Option, Some, None, IfSome, option_map}
use Rattle.std.specs.BTreeMap.{BTreeMap, get}
use Rattle.std.specs.Ordering.{nat_cmp}
use Rattle.paging_model.specs.Entries.{entry_of, is_present}
use Rattle.paging_model.specs.Memory.{entry_at}
use Rattle.paging_model.specs.Translations.{raw_target, raw_target_of}
use Rattle.paging_model.specs.Walking.{walk_from}
use Rattle.paging_model.specs.declared.entries.Bits.{Bits}
use Rattle.paging_model.specs.declared.entries.Entry.{Entry}
use Rattle.paging_model.specs.declared.entries.Entry.TheVariants as entry
use Rattle.phys_view.specs.Ranges.{SeenEntries}
use Rattle.phys_view.specs.Seen.{memory_of}
use Rattle.time_sets.specs.Sets.{has_time}
use Rattle.version_store.specs.Changes.{old_at}
use Rattle.stale_audit.specs.Facts.{Facts}
use Rattle.stale_audit.specs.SlotEntries.{IsSteadySlot}
use Rattle.stale_audit.specs.declared.timed_tables.TimedTable.{TimedTable}

-- at each time of the processor in the PCID, NXE was what it is now
abbrev pub HadOneNxe : Facts → Type 0
HadOneNxe facts = (t : ℕ) → has_time (if facts.settings.nxe then facts.nxe_clear else facts.nxe_set) t ≡ false

-- what a slot means now as an entry of a level
abbrev pub meaning_now : Facts → ℕ → ℕ → Option Entry
meaning_now facts level slot =
    option_map (λ value. entry_of level facts.settings value) (entry_at (memory_of facts.seen) slot)

-- an entry isn't present, or its bytes aren't known
abbrev pub IsAbsent : Option ℕ → Type 0
IsAbsent entry = IfSome entry (λ value. is_present value ≡ false)

-- no slot of a table of a level changed after the horizon, nor one of the tables below
abbrev pub IsSteadyTable : Facts → ℕ → ℕ → Type 0
IsSteadyTable facts zero table = Unit {0}
IsSteadyTable facts (suc lower) table = (i : ℕ) → i < 512
    → (old_at facts.kept (table + 8 * i) facts.host.horizon ≡ None)
    × ((frame : ℕ) (bits : Bits) → meaning_now facts (suc lower) (table + 8 * i) ≡ Some (entry.Table frame bits)
    → IsSteadyTable facts lower frame)

-- the same of the table that the entry of a level at a slot references
abbrev pub IsSteadyBelow : Facts → ℕ → ℕ → Type 0
IsSteadyBelow facts level slot = (frame : ℕ) (bits : Bits)
    → meaning_now facts level slot ≡ Some (entry.Table frame bits) → IsSteadyTable facts (level - 1) frame

-- a slot of a table of a level has held its present value since the horizon, and the table below it is steady
pub record IsSteadyPlace (facts : Facts) (level slot : ℕ) : Type 0 where
  pub same : IsSteadySlot facts slot
  pub below : IsSteadyBelow facts level slot

-- the entries of the table at a frame, all of them
abbrev pub entries_of_table : Facts → ℕ → SeenEntries
entries_of_table facts frame = record { seen = facts.seen; at = frame; count = 512 }

-- the entries of a table that have to be looked at to find the slots to audit: all those of a present one, or none where
-- nothing below its slots has changed
pub record AreToLookAt (facts : Facts) (level : ℕ) (table : TimedTable) (entries : Option SeenEntries) : Type 0 where
  pub all : IfSome entries (λ some. some ≡ entries_of_table facts table.frame)
  pub present : IfSome entries (λ some. table.present ≡ true)
  pub least : IfSome entries (λ some. 2 ≤ level)
  pub none : entries ≡ None → table.present ≡ true → (slot : ℕ) → IsSteadyBelow facts level slot

-- NXE was what it is now, and the present walk of each page of a range comes to a table of a level, under these joined bits
pub record IsWalkedTo (facts : Facts) (first end level table : ℕ) (bits : Bits) : Type 0 where
  pub one_nxe : HadOneNxe facts
  pub walks : (x : ℕ) → first ≤ x → x < end → x % 4096 ≡ 0 → raw_target (memory_of facts.seen) facts.settings facts.home x
      ≡ raw_target_of (walk_from (memory_of facts.seen) facts.settings level x table bits)

-- each table that is known as steady, by its address plus its level, is so
pub record AreKnownSteady (facts : Facts) (known : BTreeMap ℕ Bool) : Type 0 where
  pub each : (level table : ℕ) → level ≤ 5 → table % 4096 ≡ 0 → get nat_cmp known (table + level) ≡ Some true
      → IsSteadyTable facts level table
