-- How many entries map a page, entry by entry, and how many pages are found at them and below.
use Rattle.std.proofs.Common.{◌≡◌, ℕ, zero, suc, ◌+◌, ◌-◌, ◌*◌, ◌≤◌, Bool, true, false, Option, Some, None, List, [], ◌∷◌, ◌++◌, length, refl, ap, ◌∙◌, subst, arith, length-append}
use Rattle.std.specs.Prelude.{not, ◌==◌, option_map, if◌then◌else◌}
use Rattle.std.proofs.lemmas.Bool.Decides.{nat_tests}
use Rattle.paging_model.specs.Memory.{Memory, entry_at}
use Rattle.paging_model.specs.Entries.{entry_of, bits_of, is_global, is_leaf, is_present, is_reserved, joined_bits, page_frame, protection_key, table_frame}
use Rattle.paging_model.specs.declared.registers.Settings.{Settings}
use Rattle.paging_model.specs.declared.entries.Bits.{Bits}
use Rattle.paging_model.specs.declared.entries.Entry.{Entry}
use Rattle.paging_model.specs.declared.entries.Entry.TheVariants as entry
use Rattle.paging_model.specs.declared.spaces.TableUse.{TableUse}
use Rattle.paging_laws.specs.EntryParts.{uses_at, leaves_at}
use Rattle.paging_laws.specs.SpaceParts.{slot_read, slot_prefix, found, uses_in, leaves_in}
use Rattle.paging_laws.proofs.EntryLaws.{uses_in-none, leaves_in-none, uses_in-append, leaves_in-append, uses_in-one, leaves_in-one}
use Rattle.kept_laws.specs.PageNumbers.{pages_of_entry, pages_in, page_numbers}

no_page-by_tests : (present reserved leaf : Bool) (page table key : ℕ) (bits own : Bits) (global : Bool) → leaf ≡ false
    → pages_of_entry (Some (if not present then entry.Absent else (if reserved then entry.Reserved else (if leaf then entry.Leaf page bits key global else entry.Table table own))))
    ≡ 0
no_page-by_tests false reserved leaf page table key bits own global not_leaf = refl
no_page-by_tests true true leaf page table key bits own global not_leaf = refl
no_page-by_tests true false true page table key bits own global not_leaf = absurd cc
no_page-by_tests true false false page table key bits own global not_leaf = refl

no_page-of_entry : (level : ℕ) (settings : Settings) (value : ℕ) → is_leaf level value ≡ false
    → pages_of_entry (Some (entry_of level settings value)) ≡ 0
unfolding entry_of
no_page-of_entry level settings value not_leaf =
    no_page-by_tests (is_present value) (is_reserved level settings value) (is_leaf level value) (page_frame level value)
    (table_frame value) (protection_key value) (bits_of value) (bits_of value) (is_global value) not_leaf

no_page-read : (level : ℕ) (settings : Settings) (value : Option ℕ) → ((number : ℕ) → is_leaf level number ≡ false)
    → pages_of_entry (option_map (λ number. entry_of level settings number) value) ≡ 0
no_page-read level settings None never = refl
no_page-read level settings (Some number) never = no_page-of_entry level settings number (never number)

high_is_no_leaf : (level value : ℕ) → 4 ≤ level → is_leaf level value ≡ false
high_is_no_leaf level value high =
    let one : (level == 1) ≡ false = grind (arith, nat_tests) in
    let two : (level == 2) ≡ false = grind (arith, nat_tests) in
    let three : (level == 3) ≡ false = grind (arith, nat_tests) in
    rw (one, two, three) refl

module _ (memory : Memory) (settings : Settings) where
  pages_in-none : (level table from count : ℕ) → ((number : ℕ) → is_leaf level number ≡ false)
      → pages_in memory settings level table from count ≡ 0
  unfolding pages_in
  pages_in-none level table from zero never = refl
  pages_in-none level table from (suc n) never =
      let before = pages_in-none level table from n never in
      let here = no_page-read level settings (entry_at memory (table + 8 * (from + n))) never in
      omega arith

  -- no entry of level 4 or 5 maps a page
  pub high-none : (level table from count : ℕ) → 4 ≤ level → pages_in memory settings level table from count ≡ 0
  high-none level table from count high = pages_in-none level table from count (λ value. high_is_no_leaf level value high)

  -- of no entries, and of one more
  pub pages_in-empty : (level table from : ℕ) → pages_in memory settings level table from 0 ≡ 0
  unfolding pages_in
  pages_in-empty level table from = refl

  pub pages_in-more : (level table from n : ℕ)
      → pages_in memory settings level table from (n + 1)
      ≡ pages_in memory settings level table from n + pages_of_entry (slot_read memory settings level table (from + n))
  unfolding pages_in
  pages_in-more level table from n =
      let next : n + 1 ≡ suc n = omega arith in
      ap (pages_in memory settings level table from) next

  -- of some entries, and then of the next ones
  pub pages_in-append : (level table from count more : ℕ)
      → pages_in memory settings level table from (count + more)
      ≡ pages_in memory settings level table from count + pages_in memory settings level table (from + count) more
  pages_in-append level table from count zero =
      let none : count + 0 ≡ count = omega arith in
      let empty = pages_in-empty level table (from + count) in
      rw none (omega arith)
  pages_in-append level table from count (suc n) =
      let next : count + suc n ≡ count + n + 1 = omega arith in
      let next' : suc n ≡ n + 1 = omega arith in
      let before = pages_in-append level table from count n in
      let here = pages_in-more level table from (count + n) in
      let there = pages_in-more level table (from + count) n in
      let place : from + (count + n) ≡ from + count + n = omega arith in
      let same = ap (λ (i : ℕ). pages_of_entry (slot_read memory settings level table i)) place in
      rw (next, next') (omega arith)

  pub page_numbers-append : (some more : List TableUse)
      → page_numbers memory settings (some ++ more) ≡ page_numbers memory settings some + page_numbers memory settings more
  page_numbers-append [] more = omega arith
  page_numbers-append (one ∷ some) more = let rest = page_numbers-append some more in omega arith

  -- the pages that are found from a table of a level
  abbrev AreByNumbers : ℕ → ℕ → ℕ → Bits → ℕ → ℕ → Type 0
  AreByNumbers level table prefix above from count =
      length (leaves_in memory settings level table prefix above from count)
      ≡ pages_in memory settings level table from count
      + page_numbers memory settings (uses_in memory settings level table prefix above from count)

  module _ (lower : ℕ) (deeper : (table prefix : ℕ) (above : Bits) (from count : ℕ) → AreByNumbers lower table prefix above from count) where
    by_numbers-at : (first : ℕ) (above : Bits) (read : Option Entry)
        → length (leaves_at memory settings (suc lower) first above read)
        ≡ pages_of_entry read + page_numbers memory settings (uses_at memory settings (suc lower) first above read)
    by_numbers-at first above None = refl
    by_numbers-at first above (Some entry.Absent) = refl
    by_numbers-at first above (Some entry.Reserved) = refl
    by_numbers-at first above (Some (entry.Table frame bits)) =
        let is : lower ≡ suc lower - 1 = omega arith in
        let there = subst (λ (n : ℕ). AreByNumbers n frame first (joined_bits above bits) 0 512) is (deeper frame first (joined_bits above bits) 0 512) in
        omega arith
    by_numbers-at first above (Some (entry.Leaf frame bits key global)) = refl

    by_numbers-one : (table prefix : ℕ) (above : Bits) (i : ℕ)
        → length (leaves_in memory settings (suc lower) table prefix above i 1)
        ≡ pages_of_entry (slot_read memory settings (suc lower) table i)
        + page_numbers memory settings (uses_in memory settings (suc lower) table prefix above i 1)
    by_numbers-one table prefix above i =
        let leaves = ap length (leaves_in-one memory settings (suc lower) table prefix above i (omega arith)) in
        let uses = ap (page_numbers memory settings) (uses_in-one memory settings (suc lower) table prefix above i (omega arith)) in
        let at = by_numbers-at (slot_prefix (suc lower) prefix i) above (slot_read memory settings (suc lower) table i) in
        omega arith

    by_numbers-more : (table prefix : ℕ) (above : Bits) (from n : ℕ) → AreByNumbers (suc lower) table prefix above from n
        → AreByNumbers (suc lower) table prefix above from (n + 1)
    by_numbers-more table prefix above from n before =
        let here = by_numbers-one table prefix above (from + n) in
        let leaves = ap length (leaves_in-append memory settings (suc lower) table prefix above from n 1)
        ∙ length-append (leaves_in memory settings (suc lower) table prefix above from n) (leaves_in memory settings (suc lower) table prefix above (from + n) 1) in
        let uses = ap (page_numbers memory settings) (uses_in-append memory settings (suc lower) table prefix above from n 1)
        ∙ page_numbers-append (uses_in memory settings (suc lower) table prefix above from n) (uses_in memory settings (suc lower) table prefix above (from + n) 1) in
        let pages = pages_in-more (suc lower) table from n in
        omega arith

    by_numbers-count : (table prefix : ℕ) (above : Bits) (from count : ℕ) → AreByNumbers (suc lower) table prefix above from count
    by_numbers-count table prefix above from zero =
        let leaves = ap length (leaves_in-none memory settings (suc lower) table prefix above from) in
        let uses = ap (page_numbers memory settings) (uses_in-none memory settings (suc lower) table prefix above from) in
        let pages = pages_in-empty (suc lower) table from in
        omega arith
    by_numbers-count table prefix above from (suc n) =
        let next : n + 1 ≡ suc n = omega arith in
        subst (λ (k : ℕ). AreByNumbers (suc lower) table prefix above from k) next
        (by_numbers-more table prefix above from n (by_numbers-count table prefix above from n))

  -- there is no level 0
  by_numbers-bottom : (table prefix : ℕ) (above : Bits) (from count : ℕ) → AreByNumbers 0 table prefix above from count
  unfolding leaves_in uses_in found
  by_numbers-bottom table prefix above from count =
      let none = pages_in-none 0 table from count (λ value. refl) in
      omega arith

  -- the pages that are found at entries are those of the entries and those of the tables below them
  pub leaves-by_numbers : (level table prefix : ℕ) (above : Bits) (from count : ℕ)
      → length (leaves_in memory settings level table prefix above from count)
      ≡ pages_in memory settings level table from count
      + page_numbers memory settings (uses_in memory settings level table prefix above from count)
  leaves-by_numbers zero table prefix above from count = by_numbers-bottom table prefix above from count
  leaves-by_numbers (suc lower) table prefix above from count =
      by_numbers-count lower (λ table prefix above from count. leaves-by_numbers lower table prefix above from count) table prefix above from count
