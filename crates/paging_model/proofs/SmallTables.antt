-- Spaces of one table at each of four levels, from 0x1000 on: each table but the last one references the next by its first
-- entry, and all others map nothing. So at most the pages 0x0 and 0x1000 are mapped.
use Rattle.std.proofs.Common.{◌≡◌, ℕ, ◌+◌, ◌-◌, ◌*◌, ◌^◌, ◌<◌, inl, inr, false, Option, Some, None, refl, ap, ◌∙◌, arith}
use Rattle.std.specs.Prelude.{IsTrue, option_map}
use Rattle.std.proofs.lemmas.Bool.{cases_lt}
use Rattle.std.proofs.lemmas.Bool.Decides.{nat_tests}
use Rattle.paging_model.specs.Memory.{Memory, entry_at}
use Rattle.paging_model.specs.LinearAddress.{IsPage, index, is_canonical}
use Rattle.paging_model.specs.Entries.{entry_of, joined_bits, root_bits}
use Rattle.paging_model.specs.Walking.{walk, walk_from, at_value, at_entry, entry_address, entry_read}
use Rattle.paging_model.specs.Translations.{raw_target, raw_target_of}
use Rattle.paging_model.specs.WorkedExamples.{all}
use Rattle.paging_model.specs.WorkedSpaces.{small_settings}
use Rattle.paging_model.specs.declared.registers.Settings.{Settings}
use Rattle.paging_model.specs.declared.entries.Bits.{Bits}
use Rattle.paging_model.specs.declared.entries.Entry.{Entry}
use Rattle.paging_model.specs.declared.entries.Entry.TheVariants as entry
use Rattle.paging_model.specs.declared.walks.Walk.{Walk}
use Rattle.paging_model.proofs.WalkSteps.{walk_from-step}

-- nothing is mapped by what is read of an entry: a byte of it is unknown, or P is 0
abbrev pub IsVoid : Option Entry → Type 0
IsVoid None = Unit {0}
IsVoid (Some entry.Absent) = Unit {0}
IsVoid (Some entry.Reserved) = ⊥
IsVoid (Some (entry.Table frame bits)) = ⊥
IsVoid (Some (entry.Leaf frame bits key global)) = ⊥

-- no table is referenced
abbrev pub IsNoTable : Option Entry → Type 0
IsNoTable None = Unit {0}
IsNoTable (Some entry.Absent) = Unit {0}
IsNoTable (Some entry.Reserved) = Unit {0}
IsNoTable (Some (entry.Table frame bits)) = ⊥
IsNoTable (Some (entry.Leaf frame bits key global)) = Unit {0}

-- the tables, with the bits of the topmost reference and what is read of the entries of the two pages
pub record HasSmallTables (memory : Memory) (upper : Bits) (first second : Option Entry) : Type 0 where
  pub pointers : entry_read memory small_settings 4 0 0x1000 ≡ Some (entry.Table 0x2000 upper)
  pub directory : entry_read memory small_settings 3 0 0x2000 ≡ Some (entry.Table 0x3000 all)
  pub pages : entry_read memory small_settings 2 0 0x3000 ≡ Some (entry.Table 0x4000 all)
  pub first_page : entry_read memory small_settings 1 0 0x4000 ≡ first
  pub second_page : entry_read memory small_settings 1 0x1000 0x4000 ≡ second
  pub no_pointers : (x : ℕ) → 0 < index 4 x → IsVoid (entry_read memory small_settings 4 x 0x1000)
  pub no_directory : (x : ℕ) → 0 < index 3 x → IsVoid (entry_read memory small_settings 3 x 0x2000)
  pub no_pages : (x : ℕ) → 0 < index 2 x → IsVoid (entry_read memory small_settings 2 x 0x3000)
  pub no_page : (x : ℕ) → 1 < index 1 x → IsVoid (entry_read memory small_settings 1 x 0x4000)

-- where an address lies: by the first table whose first entry it doesn't select
pub data Place (x : ℕ) : Type 0 where
  past_pointers : 0 < index 4 x → Place x
  past_directory : index 4 x ≡ 0 → 0 < index 3 x → Place x
  past_pages : index 4 x ≡ 0 → index 3 x ≡ 0 → 0 < index 2 x → Place x
  past_page : index 4 x ≡ 0 → index 3 x ≡ 0 → index 2 x ≡ 0 → 1 < index 1 x → Place x
  in_first : index 4 x ≡ 0 → index 3 x ≡ 0 → index 2 x ≡ 0 → index 1 x ≡ 0 → Place x
  in_second : index 4 x ≡ 0 → index 3 x ≡ 0 → index 2 x ≡ 0 → index 1 x ≡ 1 → Place x

pub place : (x : ℕ) → Place x
place x =
    elim (cases_lt 0 (index 4 x)) [
      | inl some ↦ past_pointers some
      | inr four ↦ elim (cases_lt 0 (index 3 x)) [
        | inl some ↦ past_directory (omega arith) some
        | inr three ↦ elim (cases_lt 0 (index 2 x)) [
          | inl some ↦ past_pages (omega arith) (omega arith) some
          | inr two ↦ elim (cases_lt 1 (index 1 x)) [
            | inl more ↦ past_page (omega arith) (omega arith) (omega arith) more
            | inr few ↦ elim (cases_lt 0 (index 1 x)) [
              | inl some ↦ in_second (omega arith) (omega arith) (omega arith) (omega arith)
              | inr none ↦ in_first (omega arith) (omega arith) (omega arith) (omega arith)
            ]
          ]
        ]
      ]
    ]

-- bits 63:48 of a canonical address whose bits 47:39 are 0 are 0 too
pub low_half : (x : ℕ) → x < 2 ^ 64 → IsTrue (is_canonical false x) → index 4 x ≡ 0 → x < 2 ^ 39
low_half x is_below canonical four = grind (arith, nat_tests)

pub first_address : (x : ℕ) → IsPage false x → index 4 x ≡ 0 → index 3 x ≡ 0 → index 2 x ≡ 0 → index 1 x ≡ 0 → x ≡ 0
first_address x page four three two one =
    let low : x < 2 ^ 39 = low_half x page.below page.canonical four in
    omega (arith, page.aligned)

pub second_address : (x : ℕ) → IsPage false x → index 4 x ≡ 0 → index 3 x ≡ 0 → index 2 x ≡ 0 → index 1 x ≡ 1 → x ≡ 0x1000
second_address x page four three two one =
    let low : x < 2 ^ 39 = low_half x page.below page.canonical four in
    omega (arith, page.aligned)

-- an entry is read by its index alone
pub read_by_index : (memory : Memory) (settings : Settings) (level x y table : ℕ) → index level x ≡ index level y
    → entry_read memory settings level x table ≡ entry_read memory settings level y table
read_by_index memory settings level x y table same =
    ap (λ i. option_map (λ value. entry_of level settings value) (entry_at memory (table + 8 * i))) same

-- a walk to an entry that maps nothing ends at no page
void_at_entry : (go : ℕ → Bits → Walk) (level x : ℕ) (above : Bits) (meaning : Entry) → IsVoid (Some meaning)
    → raw_target_of (at_entry go level x above meaning) ≡ None
void_at_entry go level x above entry.Absent void = refl
void_at_entry go level x above entry.Reserved void = refl
void_at_entry go level x above (entry.Table frame bits) void = absurd void
void_at_entry go level x above (entry.Leaf frame bits key global) void = absurd void

void_at_value : (go : ℕ → Bits → Walk) (settings : Settings) (level x : ℕ) (above : Bits) (value : Option ℕ)
    → IsVoid (option_map (λ number. entry_of level settings number) value)
    → raw_target_of (at_value go settings level x above value) ≡ None
void_at_value go settings level x above None void = refl
void_at_value go settings level x above (Some number) void = void_at_entry go level x above (entry_of level settings number) void

no_target : (memory : Memory) (settings : Settings) (level x table : ℕ) (above : Bits) → 0 < level
    → IsVoid (entry_read memory settings level x table) → raw_target_of (walk_from memory settings level x table above) ≡ None
no_target memory settings level x table above some void =
    ap raw_target_of (walk_from-step memory settings x level table above some)
    ∙ void_at_value (λ frame bits. walk_from memory settings (level - 1) x frame bits) settings level x above
    (entry_at memory (entry_address level x table)) void

-- a walk goes on from the table that an entry references
on_at_value : (go : ℕ → Bits → Walk) (settings : Settings) (level x : ℕ) (above : Bits) (value : Option ℕ) (frame : ℕ) (bits : Bits)
    → option_map (λ number. entry_of level settings number) value ≡ Some (entry.Table frame bits)
    → at_value go settings level x above value ≡ go frame (joined_bits above bits)
on_at_value go settings level x above None frame bits means = absurd cc
on_at_value go settings level x above (Some number) frame bits means =
    let meaning : entry_of level settings number ≡ entry.Table frame bits = cc in
    rw meaning refl

goes_on : (memory : Memory) (settings : Settings) (level x table : ℕ) (above : Bits) (frame : ℕ) (bits : Bits) → 0 < level
    → entry_read memory settings level x table ≡ Some (entry.Table frame bits)
    → walk_from memory settings level x table above ≡ walk_from memory settings (level - 1) x frame (joined_bits above bits)
goes_on memory settings level x table above frame bits some read =
    walk_from-step memory settings x level table above some
    ∙ on_at_value (λ frame bits. walk_from memory settings (level - 1) x frame bits) settings level x above
    (entry_at memory (entry_address level x table)) frame bits read

module _ {memory : Memory} {upper : Bits} {first second : Option Entry} (tables : HasSmallTables memory upper first second) (x : ℕ) where
  to_pointers : index 4 x ≡ 0 → walk memory small_settings 0x1000 x ≡ walk_from memory small_settings 3 x 0x2000 (joined_bits root_bits upper)
  unfolding walk
  to_pointers four = goes_on memory small_settings 4 x 0x1000 root_bits 0x2000 upper (omega arith) (read_by_index memory small_settings 4 x 0 0x1000 four ∙ tables.pointers)

  to_directory : (above : Bits) → index 3 x ≡ 0 → walk_from memory small_settings 3 x 0x2000 above ≡ walk_from memory small_settings 2 x 0x3000 (joined_bits above all)
  to_directory above three = goes_on memory small_settings 3 x 0x2000 above 0x3000 all (omega arith) (read_by_index memory small_settings 3 x 0 0x2000 three ∙ tables.directory)

  to_pages : (above : Bits) → index 2 x ≡ 0 → walk_from memory small_settings 2 x 0x3000 above ≡ walk_from memory small_settings 1 x 0x4000 (joined_bits above all)
  to_pages above two = goes_on memory small_settings 2 x 0x3000 above 0x4000 all (omega arith) (read_by_index memory small_settings 2 x 0 0x3000 two ∙ tables.pages)

  pub past_pointers-target : 0 < index 4 x → raw_target memory small_settings 0x1000 x ≡ None
  unfolding walk
  past_pointers-target some = no_target memory small_settings 4 x 0x1000 root_bits (omega arith) (tables.no_pointers x some)

  pub past_directory-target : index 4 x ≡ 0 → 0 < index 3 x → raw_target memory small_settings 0x1000 x ≡ None
  past_directory-target four some =
      ap raw_target_of (to_pointers four) ∙ no_target memory small_settings 3 x 0x2000 _ (omega arith) (tables.no_directory x some)

  pub past_pages-target : index 4 x ≡ 0 → index 3 x ≡ 0 → 0 < index 2 x → raw_target memory small_settings 0x1000 x ≡ None
  past_pages-target four three some =
      ap raw_target_of (to_pointers four ∙ to_directory _ three)
      ∙ no_target memory small_settings 2 x 0x3000 _ (omega arith) (tables.no_pages x some)

  pub past_page-target : index 4 x ≡ 0 → index 3 x ≡ 0 → index 2 x ≡ 0 → 1 < index 1 x → raw_target memory small_settings 0x1000 x ≡ None
  past_page-target four three two more =
      ap raw_target_of (to_pointers four ∙ (to_directory _ three ∙ to_pages _ two))
      ∙ no_target memory small_settings 1 x 0x4000 _ (omega arith) (tables.no_page x more)
