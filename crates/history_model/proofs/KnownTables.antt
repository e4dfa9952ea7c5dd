-- Memories of which little but five entries of small tables is known, and after a write to the entry of page 0.
use Rattle.std.proofs.Common.{◌≡◌, ℕ, ◌+◌, ◌<◌, ◌≤◌, ◌⊎◌, inl, inr, Option, Some, None, refl, sym, subst, arith}
use Rattle.std.proofs.lemmas.Bool.{cases_lt}
use Rattle.paging_model.specs.Memory.{Memory, byte_in, entry_at}
use Rattle.paging_model.specs.LinearAddress.{index}
use Rattle.paging_model.specs.Entries.{entry_of, is_reserved}
use Rattle.paging_model.specs.Walking.{entry_address, entry_read}
use Rattle.paging_model.specs.WorkedExamples.{all}
use Rattle.paging_model.specs.WorkedSpaces.{small_settings}
use Rattle.paging_model.specs.declared.entries.Entry.{Entry}
use Rattle.paging_model.specs.declared.entries.Entry.TheVariants as entry
use Rattle.paging_model.proofs.SmallMemory.{first_entry, second_entry, outside}
use Rattle.paging_model.proofs.SmallTables.{IsVoid, HasSmallTables, read_by_index}
use Rattle.history_model.specs.History.{begun, memory}
use Rattle.history_model.specs.WorkedHistories.{small_start}
use Rattle.history_model.specs.WorkedTranslations.{two_pages, with_first_entry}

-- a byte of none of the entries that are known
record IsElsewhere (a : ℕ) : Type 0 where
  pointers : (a < 0x1000) ⊎ (0x1000 + 8 ≤ a)
  directory : (a < 0x2000) ⊎ (0x2000 + 8 ≤ a)
  pages : (a < 0x3000) ⊎ (0x3000 + 8 ≤ a)
  first : (a < 0x4000) ⊎ (0x4000 + 8 ≤ a)
  second : (a < 0x4008) ⊎ (0x4008 + 8 ≤ a)
  third : (a < 0x4010) ⊎ (0x4010 + 8 ≤ a)

module _ (memory : Memory) (unknown : (a : ℕ) → IsElsewhere a → memory a ≡ None) where
  -- so an entry elsewhere is unknown
  no_entry : (level x table : ℕ) → IsElsewhere (entry_address level x table) → IsVoid (entry_read memory small_settings level x table)
  unfolding entry_at
  no_entry level x table elsewhere = rw (unknown (entry_address level x table) elsewhere) tt

  no_pointers : (x : ℕ) → 0 < index 4 x → IsVoid (entry_read memory small_settings 4 x 0x1000)
  no_pointers x some = no_entry 4 x 0x1000 (record {
    pointers = inr (omega arith);
    directory = inl (omega arith);
    pages = inl (omega arith);
    first = inl (omega arith);
    second = inl (omega arith);
    third = inl (omega arith);
  })

  no_directory : (x : ℕ) → 0 < index 3 x → IsVoid (entry_read memory small_settings 3 x 0x2000)
  no_directory x some = no_entry 3 x 0x2000 (record {
    pointers = inr (omega arith);
    directory = inr (omega arith);
    pages = inl (omega arith);
    first = inl (omega arith);
    second = inl (omega arith);
    third = inl (omega arith);
  })

  no_pages : (x : ℕ) → 0 < index 2 x → IsVoid (entry_read memory small_settings 2 x 0x3000)
  no_pages x some = no_entry 2 x 0x3000 (record {
    pointers = inr (omega arith);
    directory = inr (omega arith);
    pages = inr (omega arith);
    first = inl (omega arith);
    second = inl (omega arith);
    third = inl (omega arith);
  })

  no_page : IsVoid (entry_read memory small_settings 1 0x2000 0x4000) → (x : ℕ) → 1 < index 1 x → IsVoid (entry_read memory small_settings 1 x 0x4000)
  no_page third x more =
      elim (cases_lt 2 (index 1 x)) [
        | inl past ↦ no_entry 1 x 0x4000 (record {
          pointers = inr (omega arith);
          directory = inr (omega arith);
          pages = inr (omega arith);
          first = inr (omega arith);
          second = inr (omega arith);
          third = inr (omega arith);
        })
        | inr few ↦
            let is_third : index 1 x ≡ 2 = omega arith in
            subst (λ one. IsVoid one) (sym (read_by_index memory small_settings 1 x 0x2000 0x4000 is_third)) third
      ]

  -- the tables, by what is read of their known entries
  known_tables : {first second : Option Entry} → entry_read memory small_settings 4 0 0x1000 ≡ Some (entry.Table 0x2000 all)
      → entry_read memory small_settings 3 0 0x2000 ≡ Some (entry.Table 0x3000 all)
      → entry_read memory small_settings 2 0 0x3000 ≡ Some (entry.Table 0x4000 all)
      → entry_read memory small_settings 1 0 0x4000 ≡ first → entry_read memory small_settings 1 0x1000 0x4000 ≡ second
      → IsVoid (entry_read memory small_settings 1 0x2000 0x4000) → HasSmallTables memory all first second
  known_tables pointers directory pages first_page second_page third = record {
    pointers = pointers;
    directory = directory;
    pages = pages;
    first_page = first_page;
    second_page = second_page;
    no_pointers = no_pointers;
    no_directory = no_directory;
    no_pages = no_pages;
    no_page = no_page third;
  }

  -- no entry of a table at 0x8000 is known
  no_other : (x : ℕ) → IsVoid (entry_read memory small_settings 4 x 0x8000)
  no_other x = no_entry 4 x 0x8000 (record {
    pointers = inr (omega arith);
    directory = inr (omega arith);
    pages = inr (omega arith);
    first = inr (omega arith);
    second = inr (omega arith);
    third = inr (omega arith);
  })

small_unknown : (a : ℕ) → IsElsewhere a → byte_in small_start.extents a ≡ None
small_unknown a elsewhere =
    rw (
      outside 0x1000 a elsewhere.pointers,
      outside 0x2000 a elsewhere.directory,
      outside 0x3000 a elsewhere.pages,
      outside 0x4000 a elsewhere.first,
      outside 0x4008 a elsewhere.second,
      outside 0x4010 a elsewhere.third,
    ) refl

pub small_core : HasSmallTables (memory (begun small_start)) all first_entry second_entry
unfolding entry_at entry_of is_reserved
small_core = known_tables (memory (begun small_start)) small_unknown refl refl refl refl refl tt

pub small_core-other : (x : ℕ) → IsVoid (entry_read (memory (begun small_start)) small_settings 4 x 0x8000)
small_core-other = no_other (memory (begun small_start)) small_unknown

two_unknown : (a : ℕ) → IsElsewhere a → memory two_pages a ≡ None
two_unknown a elsewhere =
    rw (
      outside 0x1000 a elsewhere.pointers,
      outside 0x2000 a elsewhere.directory,
      outside 0x3000 a elsewhere.pages,
      outside 0x4000 a elsewhere.first,
      outside 0x4008 a elsewhere.second,
    ) refl

pub two_pages-tables : HasSmallTables (memory two_pages) all first_entry second_entry
unfolding entry_at entry_of is_reserved
two_pages-tables = known_tables (memory two_pages) two_unknown refl refl refl refl refl tt

-- what isn't known stays unknown
written_unknown : (a : ℕ) → IsElsewhere a → memory (with_first_entry 0) a ≡ None
written_unknown a elsewhere =
    rw (
      outside 0x1000 a elsewhere.pointers,
      outside 0x2000 a elsewhere.directory,
      outside 0x3000 a elsewhere.pages,
      outside 0x4000 a elsewhere.first,
      outside 0x4008 a elsewhere.second,
    ) refl

-- with nothing in the entry of page 0
pub one_page-tables : HasSmallTables (memory (with_first_entry 0)) all (Some entry.Absent) second_entry
unfolding entry_at entry_of is_reserved
one_page-tables = known_tables (memory (with_first_entry 0)) written_unknown refl refl refl refl refl tt
