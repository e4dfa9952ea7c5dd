-- The entries that one slot of a table made over time, with NXE as it was, and what they come to. Our own words.
use Rattle.std.specs.Prelude.{◌≡◌, ℕ, ◌+◌, ◌*◌, ◌&&◌, ◌||◌, ◌⊎◌, ◌<◌, ◌≤◌, Bool, true, false, List, [], ◌∷◌, length, slice_index_or, Option, Some, None}
use Rattle.paging_model.specs.Entries.{IsFrame}
use Rattle.paging_model.specs.LinearAddress.{span}
use Rattle.paging_model.specs.declared.entries.Bits.{Bits}
use Rattle.history_model.specs.CachedTranslations.{Held, cache_key}
use Rattle.audit_laws.specs.declared.stale_pages.StalePage.{StalePage}
use Rattle.cache_rules.specs.Removals.{removed_in}
use Rattle.held_times.specs.HeldTimes.{IsHeldAt}
use Rattle.past_entries.specs.Fills.{held_of_fill}
use Rattle.past_entries.specs.declared.entries.PastEntry.{PastEntry}
use Rattle.past_entries.specs.declared.fills.Fill.{Fill}
use Rattle.present_pages.specs.StalePages.{IsPageIn}
use Rattle.present_pages.specs.declared.stale_pages.HeldPage.{HeldPage}
use Rattle.time_sets.specs.Sets.{has_time}
use Rattle.version_store.specs.Changes.{value_at}
use Rattle.stale_audit.specs.Facts.{Facts, IsStaleBy, made_in_pcid, made_with}
use Rattle.stale_audit.specs.declared.made_entries.MadeEntries.{MadeEntries}
use Rattle.stale_audit.specs.declared.made_entries.MadeEntries.TheVariants.{Always, Past}
use Rattle.stale_audit.specs.declared.slot_values.SlotValues.{SlotValues}
use Rattle.stale_audit.specs.declared.slot_values.SlotValues.TheVariants as values
use Rattle.stale_audit.specs.declared.tables.HeldTable.{HeldTable}
use Rattle.stale_audit.specs.declared.timed_tables.TimedTable.{TimedTable}

-- a table is in use at a time, with NXE 0 or with NXE 1
abbrev pub is_in_use : TimedTable → ℕ → Bool
is_in_use table t = has_time table.nxe_clear t || has_time table.nxe_set t

-- the table's times are those of `in_use` at which the processor was in the PCID
pub record IsSplit (facts : Facts) (in_use : List (ℕ × ℕ)) (table : TimedTable) : Type 0 where
  pub clear : (t : ℕ) → has_time table.nxe_clear t ≡ (has_time in_use t && has_time facts.nxe_clear t)
  pub set : (t : ℕ) → has_time table.nxe_set t ≡ (has_time in_use t && has_time facts.nxe_set t)

-- at each time from the horizon on, a slot held its present value
abbrev pub IsSteadySlot : Facts → ℕ → Type 0
IsSteadySlot facts address = (present t : ℕ) → facts.host.horizon ≤ t → value_at facts.kept address present t ≡ present

-- a table at a frame, at some of the times of the processor in the PCID; a slot of which it doesn't say that it changed held
-- its present value since the horizon
pub record IsTimed (facts : Facts) (table : TimedTable) : Type 0 where
  pub frame : IsFrame table.frame
  pub clear : (t : ℕ) → has_time table.nxe_clear t ≡ true → has_time facts.nxe_clear t ≡ true
  pub set : (t : ℕ) → has_time table.nxe_set t ≡ true → has_time facts.nxe_set t ≡ true
  pub len : length table.changed ≡ 512
  pub unchanged : (i : ℕ) → i < 512 → slice_index_or table.changed i false ≡ false → IsSteadySlot facts (table.frame + 8 * i)

-- the spans of a slot's values from a time up to now
abbrev pub spans_of : SlotValues → ℕ → ℕ → List (ℕ × ℕ × ℕ)
spans_of (values.Same value) from now = (from, now, value) ∷ []
spans_of (values.Past spans) from now = spans

-- the entries of a slot with the times at which they were made: an entry that was made throughout was made at all of `times`
abbrev pub entries_at : MadeEntries → List (ℕ × ℕ) → List PastEntry
entries_at (Always None) times = []
entries_at (Always (Some fill)) times = record { fill = fill; times = times } ∷ []
entries_at (Past entries) times = entries.items

-- at a time of a set, a slot makes what is held, with NXE as given
pub record IsMadeWith (facts : Facts) (nxe : Bool) (times : List (ℕ × ℕ)) (level address : ℕ) (above : Bits) (held : Held) (t : ℕ) : Type 0 where
  pub in_times : has_time times t ≡ true
  pub is_made : made_with facts nxe level address above t ≡ Some held

-- made at a time of use, with NXE as it was
pub record IsMadeInUse (facts : Facts) (table : TimedTable) (level address : ℕ) (above : Bits) (held : Held) (t : ℕ) : Type 0 where
  pub in_use : is_in_use table t ≡ true
  pub is_made : made_in_pcid facts level address above t ≡ Some held

-- what was made at some times of an entry of a level, from its first address on, is held at a time
abbrev pub IsFillHeldAt : Facts → ℕ → ℕ → PastEntry → ℕ → Type 0
IsFillHeldAt facts level first entry u =
    IsHeldAt (removed_in facts.host.removals (cache_key facts.under level first (held_of_fill entry.fill)))
    entry.times facts.end u

-- the page that is held of an entry of a level
abbrev pub held_page : ℕ → Fill → HeldPage
held_page level fill = record { level = level; frame = fill.frame; bits = fill.bits; key = fill.key }

-- a translation by an entry that was made at some times is held now, and stale at a page
pub record IsLeafOf (facts : Facts) (level first : ℕ) (entry : PastEntry) (one : StalePage) : Type 0 where
  pub page : IsPageIn first (first + span level) one.page
  pub leaf : entry.fill.leaf ≡ true
  pub kept : IsFillHeldAt facts level first entry facts.end
  pub stale : IsStaleBy facts level (held_of_fill entry.fill) one

-- a translation by one of some entries
abbrev pub IsLeafOfSome : Facts → ℕ → ℕ → List PastEntry → StalePage → Type 0
IsLeafOfSome facts level first [] one = ⊥
IsLeafOfSome facts level first (entry ∷ rest) one =
    IsLeafOf facts level first entry one ⊎ IsLeafOfSome facts level first rest one

-- what is held of an entry references no table, and is stale at no page of the entry's range, whenever it is held
abbrev pub IsHarmless : Facts → ℕ → ℕ → Held → Type 0
IsHarmless facts level first held = (held.leaf ≡ true)
    × ((one : StalePage) → IsPageIn first (first + span level) one.page → IsStaleBy facts level held one → ⊥)

-- what is made of a value is so
abbrev pub MakesHarmless : Facts → ℕ → ℕ → (ℕ → Option Held) → ℕ → Type 0
MakesHarmless facts level first makes value = (held : Held) → makes value ≡ Some held → IsHarmless facts level first held

-- what is made of the values of spans is so
abbrev pub AllHarmless : Facts → ℕ → ℕ → (ℕ → Option Held) → List (ℕ × ℕ × ℕ) → Type 0
AllHarmless facts level first makes spans =
    (k : ℕ) (d : ℕ × ℕ × ℕ) → k < length spans → MakesHarmless facts level first makes (slice_index_or spans k d).2

-- an entry that was made at some times references a table, and is held at a time
pub record IsReferenceOf (facts : Facts) (level first : ℕ) (entry : PastEntry) (frame : ℕ) (joined : Bits) (u : ℕ) : Type 0 where
  pub references : entry.fill.leaf ≡ false
  pub frame_is : entry.fill.frame ≡ frame
  pub bits_are : entry.fill.bits ≡ joined
  pub kept : IsFillHeldAt facts level first entry u

-- one of some entries does
abbrev pub IsReferenceOfSome : Facts → ℕ → ℕ → List PastEntry → ℕ → Bits → ℕ → Type 0
IsReferenceOfSome facts level first [] frame joined u = ⊥
IsReferenceOfSome facts level first (entry ∷ rest) frame joined u =
    IsReferenceOf facts level first entry frame joined u ⊎ IsReferenceOfSome facts level first rest frame joined u

-- tables that entries of a level may reference
abbrev pub AreTablesBelow : ℕ → List HeldTable → Type 0
AreTablesBelow level [] = Unit {0}
AreTablesBelow level (one ∷ rest) = (2 ≤ level) × IsFrame one.frame × AreTablesBelow level rest
