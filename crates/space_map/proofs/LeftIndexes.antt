-- What is left of an index without the uses beneath patches, while memory is as it was.
use Rattle.std.proofs.Common.{◌≡◌, ℕ, ◌+◌, ◌-◌, ◌<◌, ◌≤◌, inl, inr, Bool, List, [], ◌∷◌, ◌++◌, length, refl, sym, ap, ◌∙◌, subst, arith}
use Rattle.std.specs.Prelude.{map, sum}
use Rattle.std.specs.List.{fold}
use Rattle.std.proofs.lemmas.Bool.{cases_lt}
use Rattle.paging_model.specs.Counting.{IsIn, AreAll, AreDistinct}
use Rattle.paging_model.specs.Memory.{Memory}
use Rattle.paging_model.specs.TableUses.{IsUse, IsWithinLimits}
use Rattle.paging_model.specs.Walking.{top_level}
use Rattle.paging_model.specs.declared.spaces.SpaceKey.{SpaceKey}
use Rattle.paging_model.specs.declared.spaces.TableUse.{TableUse}
use Rattle.paging_laws.proofs.Pigeonholes.{distinct_are_no_more, some_are_no_more}
use Rattle.frame_index.specs.CountedUses.{HaveOwnPlaces as HaveOwnUses, pages_counted}
use Rattle.frame_index.specs.declared.counted_use.CountedUse.{CountedUse}
use Rattle.kept_laws.specs.PageNumbers.{page_number, page_numbers, pages_in_patch, pages_in_patches}
use Rattle.kept_laws.specs.Patches.{ArePatches, AreUsesLeft, IsBeneath, IsBeneathOne}
use Rattle.kept_laws.specs.declared.patches.Patch.{Patch}
use Rattle.page_laws.proofs.PageCounts.{high-none}
use Rattle.page_laws.proofs.SpaceCounts.{top_is_high, all-by_numbers}
use Rattle.page_laws.proofs.Sums.{parts_at, in_the_rest, rest-distinct, page_numbers-parts}
use Rattle.page_laws.proofs.WrittenEntries.{patch-not_beneath}
use Rattle.page_laws.proofs.PatchRanges.{patch-use}
use Rattle.space_map.specs.PatchWalks.{AreFresh, AreLeft, AreOfOwnUses, index_tables}
use Rattle.space_map.specs.TrueSpaces.{IsCountedUse}
use Rattle.space_map.proofs.IndexTables.{table-in, use-of_table, tables-distinct, tables-many}
use Rattle.space_map.proofs.PageCounts.{pages-of_part}

-- distinct uses with their numbers are of distinct tables
counted-distinct : (number : TableUse → ℕ) (index : List CountedUse) → ((one : CountedUse) → IsIn one index → one.pages ≡ number one.table)
    → AreDistinct index → AreDistinct (index_tables index)
counted-distinct number [] counts distinct = tt
counted-distinct number (one ∷ rest) counts distinct = (
  λ is.
      let other = use-of_table rest one.table is in
      let pages : other.0.pages ≡ one.pages = counts other.0 (inr other.1) ∙ (ap number other.2 ∙ sym (counts one (inl refl))) in
      let same : other.0 ≡ one =
      ap (λ (it : TableUse). record { table = it; pages = other.0.pages }) other.2 ∙ ap (λ (n : ℕ). record { table = one.table; pages = n }) pages in
      distinct.0 (subst (λ (it : CountedUse). IsIn it rest) same other.1),
  counted-distinct number rest (λ other is. counts other (inr is)) distinct.1,
)

-- the tables of an index that has all uses are all tables
pub all-tables : (memory : Memory) (key : SpaceKey) (index : List CountedUse) → AreAll (IsCountedUse memory key) index
    → AreAll (IsUse memory key.settings key.root) (index_tables index)
all-tables memory key index all = record {
  some = record {
    have = λ table is.
        let one = use-of_table index table is in
        subst (λ (it : TableUse). IsUse memory key.settings key.root it) one.2 (all.some.have one.0 one.1).is_use;
    distinct =
        counted-distinct (λ table. page_number memory key.settings table) index (λ one is. (all.some.have one is).pages) all.some.distinct;
  };
  all = λ table is_use.
      table-in index (record { table = table; pages = page_number memory key.settings table })
      (all.all (record { table = table; pages = page_number memory key.settings table }) (record { is_use = is_use; pages = refl }));
}

-- the sum of the numbers of an index is that of its tables
pub pages-by_numbers : (memory : Memory) (key : SpaceKey) (index : List CountedUse)
    → ((one : CountedUse) → IsIn one index → one.pages ≡ page_number memory key.settings one.table)
    → pages_counted index ≡ page_numbers memory key.settings (index_tables index)
pages-by_numbers memory key [] counts = refl
pages-by_numbers memory key (one ∷ rest) counts =
    omega (arith, counts one (inl refl), pages-by_numbers memory key rest (λ other is. counts other (inr is)))

-- some of distinct tables have no more pages than all of them
pub numbers-of_some : (memory : Memory) (key : SpaceKey) (some all : List TableUse) → AreDistinct some → ((table : TableUse) → IsIn table some → IsIn table all)
    → page_numbers memory key.settings some ≤ page_numbers memory key.settings all
numbers-of_some memory key [] all distinct among = omega arith
numbers-of_some memory key (one ∷ rest) all distinct among =
    let parts = parts_at one all (among one (inl refl)) in
    let whole = ap (λ (it : List TableUse). page_numbers memory key.settings it) parts.is in
    let sum_of = page_numbers-parts memory key.settings parts.before parts.after one in
    let later = numbers-of_some memory key rest (parts.before ++ parts.after) distinct.1
    (λ table is. in_the_rest parts.before parts.after one table (subst (λ (it : List TableUse). IsIn table it) parts.is (among table (inr is)))
    (λ same. distinct.0 (subst (λ (it : TableUse). IsIn it rest) same is))) in
    omega (arith, whole, sum_of, later)

sum-on : (n : ℕ) (numbers : List ℕ) → fold ◌+◌ n numbers ≡ n + fold ◌+◌ 0 numbers
sum-on n [] = omega arith
sum-on n (one ∷ rest) = omega (arith, sum-on (n + one) rest, sum-on (0 + one) rest)

sum-cons : (one : ℕ) (rest : List ℕ) → sum (one ∷ rest) ≡ one + sum rest
sum-cons one rest = omega (arith, sum-on (0 + one) rest)

pub sum-of_patches : (memory : Memory) (key : SpaceKey) (patches : List Patch)
    → sum (map (λ (patch : Patch). pages_in_patch memory key.settings patch) patches) ≡ pages_in_patches memory key.settings patches
sum-of_patches memory key [] = refl
sum-of_patches memory key (one ∷ rest) =
    sum-cons (pages_in_patch memory key.settings one) (map (λ (patch : Patch). pages_in_patch memory key.settings patch) rest)
    ∙ ap (λ (n : ℕ). pages_in_patch memory key.settings one + n) (sum-of_patches memory key rest)

-- the entries of patches, each of a table of its own, map no more pages than the tables
patches-numbers : (memory : Memory) (key : SpaceKey) (patches : List Patch) (tables : List TableUse) → AreOfOwnUses patches → AreDistinct tables
    → ((patch : Patch) → IsIn patch patches → patch.from + patch.count ≤ 512)
    → ((patch : Patch) → IsIn patch patches → patch.table.level < top_level key.settings → IsIn patch.table tables)
    → pages_in_patches memory key.settings patches ≤ page_numbers memory key.settings tables
patches-numbers memory key [] tables own distinct slots among = omega arith
patches-numbers memory key (one ∷ rest) tables own distinct slots among = elim (cases_lt one.table.level (top_level key.settings)) [
  | inl lower ↦
      let parts = parts_at one.table tables (among one (inl refl) lower) in
      let whole = ap (λ (it : List TableUse). page_numbers memory key.settings it) parts.is in
      let sum_of = page_numbers-parts memory key.settings parts.before parts.after one.table in
      let part = pages-of_part memory key.settings one.table.level one.table.frame one.from one.count (slots one (inl refl)) in
      let later = patches-numbers memory key rest (parts.before ++ parts.after) own.1
      (rest-distinct parts.before parts.after one.table (subst AreDistinct parts.is distinct))
      (λ patch is. slots patch (inr is))
      (λ patch is less. in_the_rest parts.before parts.after one.table patch.table
      (subst (λ (it : List TableUse). IsIn patch.table it) parts.is (among patch (inr is) less))
      (λ same. own.0 patch is (ap (λ (it : TableUse). it.level) same) (ap (λ (it : TableUse). it.prefix) same))) in
      omega (arith, whole, sum_of, part, later)
  | inr top ↦
      let none = high-none memory key.settings one.table.level one.table.frame one.from one.count (omega (arith, top, top_is_high key.settings)) in
      let later = patches-numbers memory key rest tables own.1 distinct (λ patch is. slots patch (inr is)) (λ patch is less. among patch (inr is) less) in
      omega (arith, none, later)
]

module _ (written : ℕ → Bool) (memory : Memory) (key : SpaceKey) (patches : List Patch) (are : ArePatches memory written key.settings key.root patches)
    (index left : List CountedUse) (all : AreAll (IsCountedUse memory key) index) (are_left : AreLeft patches index left) where
  left-counts : (one : CountedUse) → IsIn one left → one.pages ≡ page_number memory key.settings one.table
  left-counts one is = (all.some.have one (are_left.were one is)).pages

  pub not-beneath : (one : CountedUse) → IsIn one left → IsBeneathOne patches one.table → ⊥
  not-beneath one is beneath = are_left.none one is beneath.patch beneath.is_in beneath.beneath

  -- its tables are those left of all
  pub tables-left : HaveOwnUses left → AreUsesLeft patches (index_tables index) (index_tables left)
  tables-left own = record {
    distinct = tables-distinct left own;
    were = λ table is.
        let one = use-of_table left table is in
        subst (λ (it : TableUse). IsIn it (index_tables index)) one.2 (table-in index one.0 (are_left.were one.0 one.1));
    none = λ table is beneath.
        let one = use-of_table left table is in
        not-beneath one.0 one.1 (subst (λ (it : TableUse). IsBeneathOne patches it) (sym one.2) beneath);
    others = λ table is.
        let one = use-of_table index table is in
        elim (are_left.others one.0 one.1) [
          | inl stays ↦ inl (subst (λ (it : TableUse). IsIn it (index_tables left)) one.2 (table-in left one.0 stays))
          | inr gone ↦
              inr (record { patch = gone.0; is_in = gone.1; beneath = subst (λ (it : TableUse). IsBeneath gone.0 it) one.2 gone.2 })
        ];
  }

  -- nothing beneath a patch is left
  pub left-fresh : AreFresh patches left
  left-fresh patch is = record {
    none = λ one is_in lower low high. are_left.none one is_in patch is (record { lower = lower; low = low; high = high });
  }

  -- the table of a patch below the top level is left
  pub patch-left : (patch : Patch) → IsIn patch patches → patch.table.level < top_level key.settings → IsIn patch.table (index_tables left)
  patch-left patch is lower =
      let is_use = patch-use written memory key.settings key.root patch (are.each patch is) lower in
      let one = use-of_table index patch.table ((all-tables memory key index all).all patch.table is_use) in
      elim (are_left.others one.0 one.1) [
        | inl stays ↦ subst (λ (it : TableUse). IsIn it (index_tables left)) one.2 (table-in left one.0 stays)
        | inr gone ↦
            absurd (patch-not_beneath written memory key.settings key.root patches are patch is lower
            (record { patch = gone.0; is_in = gone.1; beneath = subst (λ (it : TableUse). IsBeneath gone.0 it) one.2 gone.2 }))
      ]

  module _ (own : AreOfOwnUses patches) (own_uses : HaveOwnUses left) (within : IsWithinLimits memory key.settings key.root) where
    pub few-left : length left ≤ 262144
    few-left =
        let few = distinct_are_no_more (index_tables left) within.uses.things (tables-distinct left own_uses)
        (λ table is. within.uses.all.all table ((all-tables memory key index all).some.have table ((tables-left own_uses).were table is))) in
        omega (arith, few, within.uses.many, tables-many left)

    pub few-pages : pages_counted left ≤ 2097152
    few-pages =
        let numbers = numbers-of_some memory key (index_tables left) (index_tables index) (tables-distinct left own_uses) (λ table is. (tables-left own_uses).were table is) in
        let count = all-by_numbers memory key.settings key.root (index_tables index) (all-tables memory key index all) in
        let most = some_are_no_more count.things within.leaves.things count.all.some within.leaves.all in
        omega (arith, numbers, count.many, most, within.leaves.many, pages-by_numbers memory key left left-counts)

    -- without the pages of the patches' entries
    pub numbers-outside : (n : ℕ) (before : List ℕ) → before ≡ map (λ (patch : Patch). pages_in_patch memory key.settings patch) patches
        → n ≡ pages_counted left - sum before
        → n + pages_in_patches memory key.settings patches ≡ page_numbers memory key.settings (index_tables left)
    numbers-outside n before before_are is =
        let total = ap sum before_are ∙ sum-of_patches memory key patches in
        let within_left = patches-numbers memory key patches (index_tables left) own (tables-distinct left own_uses)
        (λ patch is_in. (are.each patch is_in).reached.slots) patch-left in
        omega (arith, is, total, within_left, pages-by_numbers memory key left left-counts)
