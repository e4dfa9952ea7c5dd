-- The small memory has small tables: all its bytes but those of five entries are 0.
use Rattle.std.proofs.Common.{◌≡◌, ℕ, zero, suc, ◌+◌, ◌<◌, ◌≤◌, ◌&&◌, ◌⊎◌, inl, inr, true, false, Option, Some, refl, sym, subst, arith, nat_lt}
use Rattle.std.specs.Prelude.{nat_le, option_map}
use Rattle.std.proofs.lemmas.Bool.Decides.{nat_tests}
use Rattle.paging_model.specs.Memory.{Memory, entry_at, number_at}
use Rattle.paging_model.specs.LinearAddress.{index}
use Rattle.paging_model.specs.Entries.{entry_of, is_reserved}
use Rattle.paging_model.specs.Walking.{entry_address, entry_read}
use Rattle.paging_model.specs.WorkedExamples.{small_memory, with_entry, all, no_write}
use Rattle.paging_model.specs.WorkedSpaces.{small_settings}
use Rattle.paging_model.specs.declared.entries.Bits.{Bits}
use Rattle.paging_model.specs.declared.entries.Entry.{Entry}
use Rattle.paging_model.specs.declared.entries.Entry.TheVariants as entry
use Rattle.paging_model.proofs.SmallTables.{IsVoid, HasSmallTables}

-- a byte outside of the eight of an entry
pub outside : (at a : ℕ) → (a < at) ⊎ (at + 8 ≤ a) → (nat_le at a && nat_lt a (at + 8)) ≡ false
outside at a either = grind (arith, nat_tests)

-- a byte that is known and of none of the five entries
record IsElsewhere (a : ℕ) : Type 0 where
  limit : a < 0x10000
  pointers : (a < 0x1000) ⊎ (0x1000 + 8 ≤ a)
  directory : (a < 0x2000) ⊎ (0x2000 + 8 ≤ a)
  pages : (a < 0x3000) ⊎ (0x3000 + 8 ≤ a)
  first : (a < 0x4000) ⊎ (0x4000 + 8 ≤ a)
  second : (a < 0x4008) ⊎ (0x4008 + 8 ≤ a)

within : (a limit : ℕ) → a < limit → nat_lt a limit ≡ true
within a limit less = grind (arith, nat_tests)

small_memory-elsewhere : (a : ℕ) → IsElsewhere a → small_memory a ≡ Some 0
small_memory-elsewhere a elsewhere =
    rw (
      outside 0x1000 a elsewhere.pointers,
      outside 0x2000 a elsewhere.directory,
      outside 0x3000 a elsewhere.pages,
      outside 0x4000 a elsewhere.first,
      outside 0x4008 a elsewhere.second,
      within a 0x10000 elsewhere.limit,
    ) refl

number_at-zeros : (memory : Memory) (n a : ℕ) → ((k : ℕ) → k < n → memory (a + k) ≡ Some 0) → number_at memory n a ≡ Some 0
number_at-zeros memory zero a zeros = refl
number_at-zeros memory (suc n) a zeros =
    let first : memory a ≡ Some 0 = let none : a + 0 ≡ a = omega arith in rw none at (zeros 0 (omega arith)) in
    let rest : number_at memory n (a + 1) ≡ Some 0 =
    number_at-zeros memory n (a + 1) (λ k less. let next : a + 1 + k ≡ a + (k + 1) = omega arith in rw next (zeros (k + 1) (omega arith))) in
    rw (first, rest) refl

module _ (memory : Memory) (zeros : (a : ℕ) → IsElsewhere a → memory a ≡ Some 0) where
  -- so an entry elsewhere maps nothing
  no_entry : (level x table : ℕ) → ((k : ℕ) → k < 8 → IsElsewhere (entry_address level x table + k)) → IsVoid (entry_read memory small_settings level x table)
  unfolding entry_at entry_of
  no_entry level x table elsewhere =
      let read : entry_at memory (entry_address level x table) ≡ Some 0 =
      number_at-zeros memory 8 (entry_address level x table) (λ k less. zeros (entry_address level x table + k) (elsewhere k less)) in
      subst (λ value. IsVoid (option_map (λ number. entry_of level small_settings number) value)) (sym read) tt

  no_pointers : (x : ℕ) → 0 < index 4 x → IsVoid (entry_read memory small_settings 4 x 0x1000)
  no_pointers x some = no_entry 4 x 0x1000 (λ k less. record {
    limit = omega arith;
    pointers = inr (omega arith);
    directory = inl (omega arith);
    pages = inl (omega arith);
    first = inl (omega arith);
    second = inl (omega arith);
  })

  no_directory : (x : ℕ) → 0 < index 3 x → IsVoid (entry_read memory small_settings 3 x 0x2000)
  no_directory x some = no_entry 3 x 0x2000 (λ k less. record {
    limit = omega arith;
    pointers = inr (omega arith);
    directory = inr (omega arith);
    pages = inl (omega arith);
    first = inl (omega arith);
    second = inl (omega arith);
  })

  no_pages : (x : ℕ) → 0 < index 2 x → IsVoid (entry_read memory small_settings 2 x 0x3000)
  no_pages x some = no_entry 2 x 0x3000 (λ k less. record {
    limit = omega arith;
    pointers = inr (omega arith);
    directory = inr (omega arith);
    pages = inr (omega arith);
    first = inl (omega arith);
    second = inl (omega arith);
  })

  no_page : (x : ℕ) → 1 < index 1 x → IsVoid (entry_read memory small_settings 1 x 0x4000)
  no_page x more = no_entry 1 x 0x4000 (λ k less. record {
    limit = omega arith;
    pointers = inr (omega arith);
    directory = inr (omega arith);
    pages = inr (omega arith);
    first = inr (omega arith);
    second = inr (omega arith);
  })

  -- the tables, by what is read of the five entries
  zero_tables : {upper : Bits} {first second : Option Entry} → entry_read memory small_settings 4 0 0x1000 ≡ Some (entry.Table 0x2000 upper)
      → entry_read memory small_settings 3 0 0x2000 ≡ Some (entry.Table 0x3000 all)
      → entry_read memory small_settings 2 0 0x3000 ≡ Some (entry.Table 0x4000 all)
      → entry_read memory small_settings 1 0 0x4000 ≡ first → entry_read memory small_settings 1 0x1000 0x4000 ≡ second
      → HasSmallTables memory upper first second
  zero_tables pointers directory pages first_page second_page = record {
    pointers = pointers;
    directory = directory;
    pages = pages;
    first_page = first_page;
    second_page = second_page;
    no_pointers = no_pointers;
    no_directory = no_directory;
    no_pages = no_pages;
    no_page = no_page;
  }

abbrev pub first_entry : Option Entry
first_entry = Some (entry.Leaf 0x5000 all 0 false)

abbrev pub second_entry : Option Entry
second_entry = Some (entry.Leaf 0x6000 no_write 0 false)

pub small_tables : HasSmallTables small_memory all first_entry second_entry
unfolding entry_at entry_of is_reserved
small_tables = zero_tables small_memory small_memory-elsewhere refl refl refl refl refl

-- so has the memory with another entry at the root
other_root-elsewhere : (a : ℕ) → IsElsewhere a → with_entry 0x1000 0x2005 small_memory a ≡ Some 0
other_root-elsewhere a elsewhere =
    rw (
      outside 0x1000 a elsewhere.pointers,
      outside 0x2000 a elsewhere.directory,
      outside 0x3000 a elsewhere.pages,
      outside 0x4000 a elsewhere.first,
      outside 0x4008 a elsewhere.second,
      within a 0x10000 elsewhere.limit,
    ) refl

pub other_tables : HasSmallTables (with_entry 0x1000 0x2005 small_memory) no_write first_entry second_entry
unfolding entry_at entry_of is_reserved
other_tables = zero_tables (with_entry 0x1000 0x2005 small_memory) other_root-elsewhere refl refl refl refl refl
