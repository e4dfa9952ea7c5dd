-- How the uses of a space stand in an index: as records in slots, and the slot of each in two maps, by its place and by its frame.
use Rattle.std.specs.Prelude.{◌≡◌, ℕ, ◌-◌, ◌≤◌, ◌⊎◌, List, [], ◌∷◌, Option, None, Some, cond, slice_index_or}
use Rattle.std.specs.BTreeMap.{BTreeMap, get, is_at}
use Rattle.std.specs.Ordering.{nat_cmp, ordering_then}
use Rattle.std.specs.declared.cmp.Ordering.{Ordering}
use Rattle.paging_model.specs.Counting.{IsIn}
use Rattle.paging_model.specs.declared.spaces.TableUse.{TableUse}
use Rattle.frame_index.specs.CountedUses.{pages_counted}
use Rattle.frame_index.specs.declared.counted_use.CountedUse.{CountedUse}

-- the order of places: by level, then by prefix
abbrev pub place_cmp : (ℕ × ℕ) → (ℕ × ℕ) → Ordering
place_cmp = λ p q. ordering_then (nat_cmp p.0 q.0) (nat_cmp p.1 q.1)

-- the order in which the uses of frames stand: by frame, then by what follows
abbrev pub frame_cmp : (ℕ × (ℕ × ℕ)) → (ℕ × (ℕ × ℕ)) → Ordering
frame_cmp = λ p q. ordering_then (nat_cmp p.0 q.0) (place_cmp p.1 q.1)

-- where a use stands
abbrev pub place_of : CountedUse → (ℕ × ℕ)
place_of one = (one.table.level, one.table.prefix)

-- where a use stands among those of all frames: by descending levels, then by ascending prefixes
abbrev pub frame_place_of : CountedUse → (ℕ × (ℕ × ℕ))
frame_place_of one = (one.table.frame, (255 - one.table.level, one.table.prefix))

-- the record in a slot
abbrev pub record_in : List (Option CountedUse) → ℕ → Option CountedUse
record_in slots key = slice_index_or slots key None

-- the records in all slots
abbrev pub records_in : List (Option CountedUse) → List CountedUse
records_in [] = []
records_in (None ∷ rest) = records_in rest
records_in (Some one ∷ rest) = one ∷ records_in rest

module _ {K : Type 0} (R : K → K → Ordering) where
  -- the map with another value at a key, or with none
  abbrev pub PutsSlot : BTreeMap K ℕ → BTreeMap K ℕ → K → Option ℕ → Type 0
  PutsSlot old new key value = (other : K) → get R new other ≡ cond (is_at (R key) other) value (get R old other)

  -- a map leads from the keys of the records to their slots, and nowhere else
  pub record LeadsToSlots (key_of : CountedUse → K) (slots : List (Option CountedUse)) (map : BTreeMap K ℕ) : Type 0 where
    pub leads : (slot : ℕ) (one : CountedUse) → record_in slots slot ≡ Some one → get R map (key_of one) ≡ Some slot
    pub has : (key : K) (slot : ℕ) → get R map key ≡ Some slot
        → (one : CountedUse) × (record_in slots slot ≡ Some one) × (key_of one ≡ key)

-- a level of 8 bits, and a prefix of 64
abbrev pub FitsPlace : CountedUse → Type 0
FitsPlace one = (one.table.level ≤ 255) × (one.table.prefix ≤ 18446744073709551615)

-- the two maps lead to all records, levels and prefixes fit, and the pages are counted
pub record AreFiled (slots : List (Option CountedUse)) (places : BTreeMap (ℕ × ℕ) ℕ) (frames : BTreeMap (ℕ × (ℕ × ℕ)) ℕ) (pages : ℕ) : Type 0 where
  pub by_place : LeadsToSlots place_cmp place_of slots places
  pub by_frame : LeadsToSlots frame_cmp frame_place_of slots frames
  pub fits : (slot : ℕ) (one : CountedUse) → record_in slots slot ≡ Some one → FitsPlace one
  pub counted : pages ≡ pages_counted (records_in slots)

-- adds the table of a record to the front of a list, if there is a record
abbrev pub with_table : Option CountedUse → List TableUse → List TableUse
with_table None tables = tables
with_table (Some one) tables = one.table ∷ tables

-- the tables of the records to which entries of a map lead, in their order
abbrev pub tables_of : {K : Type 0} → List (Option CountedUse) → List (K × ℕ) → List TableUse
tables_of slots [] = []
tables_of slots (entry ∷ rest) = with_table (record_in slots entry.1) (tables_of slots rest)

-- a use of a level whose prefix lies in a range
pub record IsBetween (first last level : ℕ) (table : TableUse) : Type 0 where
  pub level_is : table.level ≡ level
  pub from : first ≤ table.prefix
  pub to : table.prefix ≤ last

-- those of a level are gone, and no others
pub record AreRemovedOf (first last level : ℕ) (old new : List CountedUse) : Type 0 where
  pub were : (one : CountedUse) → IsIn one new → IsIn one old
  pub none : (one : CountedUse) → IsIn one new → IsBetween first last level one.table → ⊥
  pub others : (one : CountedUse) → IsIn one old → (IsIn one new ⊎ IsBetween first last level one.table)
