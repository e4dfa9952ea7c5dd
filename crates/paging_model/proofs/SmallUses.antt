-- The tables and pages of a space with small tables: one of each level, each at 0x0, and the two pages.
use Rattle.std.proofs.Common.{◌≡◌, ℕ, suc, ◌+◌, ◌-◌, ◌*◌, ◌%◌, ◌^◌, ◌<◌, inl, inr, false, Option, Some, None, List, [], ◌∷◌, refl, sym, ap, ◌∙◌, subst, arith}
use Rattle.std.proofs.lemmas.Bool.{cases_lt}
use Rattle.std.proofs.Math.Pow.{mod-mod-pow}
use Rattle.paging_model.specs.Counting.{AreAll, IsIn}
use Rattle.paging_model.specs.Memory.{Memory}
use Rattle.paging_model.specs.LinearAddress.{IsPage, index, span}
use Rattle.paging_model.specs.Entries.{joined_bits}
use Rattle.paging_model.specs.Walking.{walk, entry_read}
use Rattle.paging_model.specs.Translations.{raw_target, raw_target_of}
use Rattle.paging_model.specs.TableUses.{Reaches, at_root, below, IsPrefix, Serves, IsUse, Leaf, IsLeaf, IsWithinLimits}
use Rattle.paging_model.specs.WorkedExamples.{all}
use Rattle.paging_model.specs.WorkedSpaces.{small_settings, table_use, small_uses, small_page, small_pages}
use Rattle.paging_model.specs.declared.entries.Bits.{Bits}
use Rattle.paging_model.specs.declared.entries.Entry.{Entry}
use Rattle.paging_model.specs.declared.entries.Entry.TheVariants as entry
use Rattle.paging_model.specs.declared.spaces.TableUse.{TableUse}
use Rattle.paging_model.specs.declared.walks.Page.{Page}
use Rattle.paging_model.specs.declared.walks.Walk.TheVariants.{Mapped}
use Rattle.paging_model.proofs.SmallTables.{low_half, IsVoid, IsNoTable, HasSmallTables, past_pointers, past_directory, past_pages, past_page, in_first, in_second, place, first_address, second_address, read_by_index, past_pointers-target, past_directory-target, past_pages-target, past_page-target}

-- one of the tables, as the walk of an address comes to it
data SmallTable (x level table : ℕ) (bits : Bits) : Type 0 where
  top : level ≡ 4 → table ≡ 0x1000 → bits ≡ all → SmallTable x level table bits
  pointers : level ≡ 3 → table ≡ 0x2000 → bits ≡ all → index 4 x ≡ 0 → SmallTable x level table bits
  directory : level ≡ 2 → table ≡ 0x3000 → bits ≡ all → index 4 x ≡ 0 → index 3 x ≡ 0 → SmallTable x level table bits
  pages : level ≡ 1 → table ≡ 0x4000 → bits ≡ all → index 4 x ≡ 0 → index 3 x ≡ 0 → index 2 x ≡ 0 → SmallTable x level table bits

-- a table whose first entry alone maps something has one reference
one_reference : (memory : Memory) (level x table target frame : ℕ) (bits : Bits) → index level 0 ≡ 0
    → entry_read memory small_settings level 0 table ≡ Some (entry.Table target all)
    → ((y : ℕ) → 0 < index level y → IsVoid (entry_read memory small_settings level y table))
    → entry_read memory small_settings level x table ≡ Some (entry.Table frame bits)
    → (index level x ≡ 0) × (frame ≡ target) × (bits ≡ all)
one_reference memory level x table target frame bits first reference void read =
    elim (cases_lt 0 (index level x)) [
      | inl some ↦ absurd (subst (λ one. IsVoid one) read (void x some))
      | inr none ↦
          let at_first : index level x ≡ 0 = omega arith in
          let same : Some (entry.Table frame bits) ≡ Some (entry.Table target all) =
          sym read ∙ (read_by_index memory small_settings level x 0 table (at_first ∙ sym first) ∙ reference) in
          let frames : frame ≡ target = cc in
          let joins : bits ≡ all = cc in
          (at_first, frames, joins)
    ]

same_join : (above bits : Bits) → above ≡ all → bits ≡ all → joined_bits above bits ≡ all
same_join above bits above_is bits_is = ap (λ it. joined_bits it bits) above_is ∙ ap (λ it. joined_bits all it) bits_is

-- the first address of a range is that of a page
page_of_prefix : (level prefix : ℕ) → IsPrefix small_settings level prefix → IsPage false prefix
page_of_prefix level prefix is_prefix =
    let longer : 9 * (level - 1) + 12 ≡ 12 + 9 * (level - 1) = omega arith in
    record {
      below = is_prefix.below;
      aligned =
          sym (mod-mod-pow prefix (9 * (level - 1)) 12)
          ∙ (ap (λ n. prefix % 2 ^ n % 4096) longer ∙ ap (λ n. n % 4096) is_prefix.whole);
      canonical = is_prefix.canonical;
    }

-- the first address that a table of a level serves
record Level (level prefix : ℕ) : Type 0 where
  highest : level ≡ 4 → prefix ≡ 0
  page : level < 4 → IsPage false prefix
  whole : (lower : ℕ) → level ≡ lower → lower < 4 → prefix % span (lower + 1) ≡ 0

level_of : (level prefix : ℕ) → Serves small_settings level prefix → Level level prefix
level_of level prefix (inl highest) = record {
  highest = λ is_highest. highest.1;
  page = λ less. absurd (omega (arith, highest.0));
  whole = λ lower level_is less. absurd (omega (arith, highest.0));
}
level_of level prefix (inr lower) = record {
  highest = λ is_highest. absurd (omega (arith, lower.1));
  page = λ less. page_of_prefix (level + 1) prefix lower.2;
  whole = λ lower_level level_is less. subst (λ l. prefix % span (l + 1) ≡ 0) level_is lower.2.whole;
}

use_of : ℕ → ℕ → ℕ → Bits → TableUse
use_of level prefix frame bits = record { level = level; prefix = prefix; frame = frame; bits = bits }

alike : (level level' prefix prefix' frame frame' : ℕ) (bits bits' : Bits) → level ≡ level' → prefix ≡ prefix' → frame ≡ frame'
    → bits ≡ bits' → use_of level prefix frame bits ≡ use_of level' prefix' frame' bits'
alike level level' prefix prefix' frame frame' bits bits' levels prefixes frames joins = cc

same_use : (table : TableUse) (level frame : ℕ) → table.level ≡ level → table.prefix ≡ 0 → table.frame ≡ frame → table.bits ≡ all
    → table ≡ table_use level frame
unfolding use_of
same_use table level frame level_is prefix_is frame_is bits_is =
    alike table.level level table.prefix 0 table.frame frame table.bits all level_is prefix_is frame_is bits_is

leaf_of : ℕ → ℕ → Leaf
leaf_of level prefix = record { level = level; prefix = prefix }

same_page : (leaf : Leaf) (prefix : ℕ) → leaf.level ≡ 1 → leaf.prefix ≡ prefix → leaf ≡ small_page prefix
unfolding leaf_of
same_page leaf prefix level_is prefix_is = ap (λ level. leaf_of level leaf.prefix) level_is ∙ ap (leaf_of 1) prefix_is

page_level : (one other : Page) → Mapped one ≡ Mapped other → (level : ℕ) → other.level ≡ level → one.level ≡ 1 → level ≡ 1
page_level one other walks level level_is one_is = let pages : one ≡ other = cc in sym level_is ∙ (ap (λ (page : Page). page.level) (sym pages) ∙ one_is)

unmapped : {memory : Memory} (leaf : Leaf) → IsLeaf memory small_settings 0x1000 leaf → raw_target memory small_settings 0x1000 leaf.prefix ≡ None → ⊥
unmapped leaf is_leaf none = let end : raw_target_of (Mapped is_leaf.page) ≡ None = sym (ap raw_target_of is_leaf.mapped) ∙ none in absurd (cc)

module _ {memory : Memory} {first second : Option Entry} (tables : HasSmallTables memory all first second) (no_first : IsNoTable first) (no_second : IsNoTable second) where
  -- the last table references none
  no_reference : (x frame : ℕ) (bits : Bits) → entry_read memory small_settings 1 x 0x4000 ≡ Some (entry.Table frame bits) → ⊥
  no_reference x frame bits read =
      elim (cases_lt 1 (index 1 x)) [
        | inl more ↦ absurd (subst (λ one. IsVoid one) read (tables.no_page x more))
        | inr few ↦ elim (cases_lt 0 (index 1 x)) [
          | inl some ↦
              let is_second : index 1 x ≡ 1 = omega arith in
              subst (λ one. IsNoTable one) (sym tables.second_page ∙ (sym (read_by_index memory small_settings 1 x 0x1000 0x4000 is_second) ∙ read)) no_second
          | inr none ↦
              let is_first : index 1 x ≡ 0 = omega arith in
              subst (λ one. IsNoTable one) (sym tables.first_page ∙ (sym (read_by_index memory small_settings 1 x 0 0x4000 is_first) ∙ read)) no_first
        ]
      ]

  -- where a walk comes to from one of the tables
  below_small : (x level table frame : ℕ) (above bits : Bits) → SmallTable x (suc level) table above
      → entry_read memory small_settings (suc level) x table ≡ Some (entry.Table frame bits)
      → SmallTable x level frame (joined_bits above bits)
  below_small x level table frame above bits (top level_is table_is above_is) read =
      let one = one_reference memory 4 x 0x1000 0x2000 frame bits refl tables.pointers tables.no_pointers (rw (level_is, table_is) at read) in
      pointers (omega arith) one.1 (same_join above bits above_is one.2) one.0
  below_small x level table frame above bits (pointers level_is table_is above_is four) read =
      let one = one_reference memory 3 x 0x2000 0x3000 frame bits refl tables.directory tables.no_directory (rw (level_is, table_is) at read) in
      directory (omega arith) one.1 (same_join above bits above_is one.2) four one.0
  below_small x level table frame above bits (directory level_is table_is above_is four three) read =
      let one = one_reference memory 2 x 0x3000 0x4000 frame bits refl tables.pages tables.no_pages (rw (level_is, table_is) at read) in
      pages (omega arith) one.1 (same_join above bits above_is one.2) four three one.0
  below_small x level table frame above bits (pages level_is table_is above_is four three two) read =
      absurd (no_reference x frame bits (rw (level_is, table_is) at read))

  small_table : {x level table : ℕ} {bits : Bits} → Reaches memory small_settings 0x1000 level x table bits → SmallTable x level table bits
  small_table at_root = top refl refl refl
  small_table (below {level = level} {x = x} {table = table} {frame = frame} {above = above} {bits = bits} reached read) =
      below_small x level table frame above bits (small_table reached) read

  -- each use is that of one of the tables, at 0x0
  is_small_use : (table : TableUse) → IsUse memory small_settings 0x1000 table
      → IsIn table small_uses
  is_small_use table is_use =
      let at : Level table.level table.prefix = level_of table.level table.prefix is_use.serves in
      elim (small_table is_use.reached) [
        | top level_is frame_is bits_is ↦ inl (same_use table 4 0x1000 level_is (at.highest level_is) frame_is bits_is)
        | pointers level_is frame_is bits_is four ↦
            let page = at.page (omega arith) in
            let low : table.prefix < 2 ^ 39 = low_half table.prefix page.below page.canonical four in
            let whole = at.whole 3 level_is (omega arith) in
            inr (inl (same_use table 3 0x2000 level_is (omega arith) frame_is bits_is))
        | directory level_is frame_is bits_is four three ↦
            let page = at.page (omega arith) in
            let low : table.prefix < 2 ^ 39 = low_half table.prefix page.below page.canonical four in
            let whole = at.whole 2 level_is (omega arith) in
            inr (inr (inl (same_use table 2 0x3000 level_is (omega arith) frame_is bits_is)))
        | pages level_is frame_is bits_is four three two ↦
            let page = at.page (omega arith) in
            let low : table.prefix < 2 ^ 39 = low_half table.prefix page.below page.canonical four in
            let whole = at.whole 1 level_is (omega arith) in
            inr (inr (inr (inl (same_use table 1 0x4000 level_is (omega arith) frame_is bits_is))))
      ]

module _ {memory : Memory} {first second : Option Entry} (tables : HasSmallTables memory all first second) where
  -- each page is one of the two, where both are mapped
  is_small_page : (one two : Page) → walk memory small_settings 0x1000 0 ≡ Mapped one → one.level ≡ 1
      → walk memory small_settings 0x1000 0x1000 ≡ Mapped two → two.level ≡ 1
      → (leaf : Leaf) → IsLeaf memory small_settings 0x1000 leaf → IsIn leaf small_pages
  is_small_page one two first_walk first_level second_walk second_level leaf is_leaf =
      let is_page = page_of_prefix leaf.level leaf.prefix is_leaf.prefix in
      elim (place leaf.prefix) [
        | past_pointers some ↦ absurd (unmapped leaf is_leaf (past_pointers-target tables leaf.prefix some))
        | past_directory four some ↦ absurd (unmapped leaf is_leaf (past_directory-target tables leaf.prefix four some))
        | past_pages four three some ↦ absurd (unmapped leaf is_leaf (past_pages-target tables leaf.prefix four three some))
        | past_page four three two_is more ↦ absurd (unmapped leaf is_leaf (past_page-target tables leaf.prefix four three two_is more))
        | in_first four three two_is one_is ↦
            let prefix = first_address leaf.prefix is_page four three two_is one_is in
            let walks : Mapped one ≡ Mapped is_leaf.page =
            sym first_walk ∙ (ap (λ x. walk memory small_settings 0x1000 x) (sym prefix) ∙ is_leaf.mapped) in
            inl (same_page leaf 0 (page_level one is_leaf.page walks leaf.level is_leaf.level first_level) prefix)
        | in_second four three two_is one_is ↦
            let prefix = second_address leaf.prefix is_page four three two_is one_is in
            let walks : Mapped two ≡ Mapped is_leaf.page =
            sym second_walk ∙ (ap (λ x. walk memory small_settings 0x1000 x) (sym prefix) ∙ is_leaf.mapped) in
            inr (inl (same_page leaf 0x1000 (page_level two is_leaf.page walks leaf.level is_leaf.level second_level) prefix))
      ]

-- each of the tables is used
is_use : {memory : Memory} {first second : Option Entry} → HasSmallTables memory all first second → (table : TableUse)
    → IsIn table small_uses → IsUse memory small_settings 0x1000 table
is_use {memory = memory} tables table (inl e) =
    subst (λ it. IsUse memory small_settings 0x1000 it) (sym e) (record { serves = inl (refl, refl); reached = at_root })
is_use {memory = memory} tables table (inr (inl e)) =
    subst (λ it. IsUse memory small_settings 0x1000 it) (sym e) (record {
      serves = inr (omega arith, omega arith, record { below = omega arith; whole = refl; canonical = refl });
      reached = below at_root tables.pointers;
    })
is_use {memory = memory} tables table (inr (inr (inl e))) =
    subst (λ it. IsUse memory small_settings 0x1000 it) (sym e) (record {
      serves = inr (omega arith, omega arith, record { below = omega arith; whole = refl; canonical = refl });
      reached = below (below at_root tables.pointers) tables.directory;
    })
is_use {memory = memory} tables table (inr (inr (inr (inl e)))) =
    subst (λ it. IsUse memory small_settings 0x1000 it) (sym e) (record {
      serves = inr (omega arith, omega arith, record { below = omega arith; whole = refl; canonical = refl });
      reached = below (below (below at_root tables.pointers) tables.directory) tables.pages;
    })
is_use tables table (inr (inr (inr (inr e)))) = absurd e

-- no table is among those of lower levels
abbrev AreLower : ℕ → List TableUse → Type 0
AreLower level [] = Unit {0}
AreLower level (one ∷ rest) = (one.level < level) × AreLower level rest

not_among : (table : TableUse) (rest : List TableUse) → AreLower table.level rest → IsIn table rest → ⊥
not_among table [] lower among = among
not_among table (one ∷ rest) lower (inl e) = absurd (omega (arith, lower.0, ap (λ (it : TableUse). it.level) e))
not_among table (one ∷ rest) lower (inr among) = not_among table rest lower.1 among

-- the four tables are all
pub all_uses : {memory : Memory} {first second : Option Entry} → HasSmallTables memory all first second → IsNoTable first → IsNoTable second
    → AreAll (IsUse memory small_settings 0x1000) small_uses
all_uses tables no_first no_second = record {
  some = record {
    have = is_use tables;
    distinct = (
      not_among (table_use 4 0x1000) (table_use 3 0x2000 ∷ table_use 2 0x3000 ∷ table_use 1 0x4000 ∷ []) (omega arith, (omega arith, (omega arith, tt))),
      (
        not_among (table_use 3 0x2000) (table_use 2 0x3000 ∷ table_use 1 0x4000 ∷ []) (omega arith, (omega arith, tt)),
        (not_among (table_use 2 0x3000) (table_use 1 0x4000 ∷ []) (omega arith, tt), ((λ none. none), tt)),
      ),
    );
  };
  all = is_small_use tables no_first no_second;
}

is_leaf : {memory : Memory} (one two : Page) → walk memory small_settings 0x1000 0 ≡ Mapped one → one.level ≡ 1
    → walk memory small_settings 0x1000 0x1000 ≡ Mapped two → two.level ≡ 1
    → (leaf : Leaf) → IsIn leaf small_pages → IsLeaf memory small_settings 0x1000 leaf
is_leaf {memory = memory} one two first_walk first_level second_walk second_level leaf (inl e) =
    subst (λ it. IsLeaf memory small_settings 0x1000 it) (sym e) (record {
      prefix = record { below = omega arith; whole = refl; canonical = refl };
      page = one;
      mapped = first_walk;
      level = first_level;
    })
is_leaf {memory = memory} one two first_walk first_level second_walk second_level leaf (inr (inl e)) =
    subst (λ it. IsLeaf memory small_settings 0x1000 it) (sym e) (record {
      prefix = record { below = omega arith; whole = refl; canonical = refl };
      page = two;
      mapped = second_walk;
      level = second_level;
    })
is_leaf one two first_walk first_level second_walk second_level leaf (inr (inr e)) = absurd e

-- the two pages are all, where both are mapped
pub all_pages : {memory : Memory} {first second : Option Entry} → HasSmallTables memory all first second
    → (one two : Page) → walk memory small_settings 0x1000 0 ≡ Mapped one → one.level ≡ 1
    → walk memory small_settings 0x1000 0x1000 ≡ Mapped two → two.level ≡ 1
    → AreAll (IsLeaf memory small_settings 0x1000) small_pages
all_pages tables one two first_walk first_level second_walk second_level = record {
  some = record {
    have = is_leaf one two first_walk first_level second_walk second_level;
    distinct = ((λ h. elim h [ inl e ↦ absurd (omega (arith, ap (λ (it : Leaf). it.prefix) e)) | inr none ↦ none ]), ((λ none. none), tt));
  };
  all = is_small_page tables one two first_walk first_level second_walk second_level;
}

pub within_limits : {memory : Memory} → AreAll (IsUse memory small_settings 0x1000) small_uses
    → AreAll (IsLeaf memory small_settings 0x1000) small_pages → IsWithinLimits memory small_settings 0x1000
within_limits uses leaves = record {
  uses = record { things = small_uses; all = uses; many = omega arith };
  leaves = record { things = small_pages; all = leaves; many = omega arith };
}
