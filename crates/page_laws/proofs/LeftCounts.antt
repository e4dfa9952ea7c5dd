-- How many pages the tables that are left map after a write, and how many the space has then.
use Rattle.std.proofs.Common.{◌≡◌, ℕ, ◌+◌, ◌<◌, ◌≤◌, ◌⊎◌, inl, inr, Bool, List, [], ◌∷◌, ◌++◌, length, refl, sym, ap, ◌∙◌, subst, arith, length-append}
use Rattle.std.proofs.lemmas.Bool.{cases_lt}
use Rattle.paging_model.specs.Counting.{IsIn, AreDistinct, AreAll, Count}
use Rattle.paging_model.specs.Memory.{Memory}
use Rattle.paging_model.specs.TableUses.{IsUse, IsLeaf}
use Rattle.paging_model.specs.Walking.{top_level}
use Rattle.paging_model.specs.declared.registers.Settings.{Settings}
use Rattle.paging_model.specs.declared.spaces.TableUse.{TableUse}
use Rattle.paging_laws.proofs.Reaching.{use_is_one}
use Rattle.kept_laws.specs.PageNumbers.{page_number, page_numbers, pages_in_patch, pages_in_patches}
use Rattle.kept_laws.specs.Patches.{low_of, high_of, AreSeparate, ArePatches, uses_in_patch, uses_in_patches, leaves_in_patch, leaves_in_patches, AreUsesLeft}
use Rattle.kept_laws.specs.WrittenPlaces.{AreAlikeBut}
use Rattle.kept_laws.specs.declared.patches.Patch.{Patch}
use Rattle.page_laws.specs.PatchEntries.{HaveOwnTables}
use Rattle.page_laws.proofs.PageCounts.{high-none, page_numbers-append, leaves-by_numbers}
use Rattle.page_laws.proofs.Sums.{parts_at, in_the_rest, in_the_whole, rest-distinct, one-is_out, page_numbers-parts}
use Rattle.page_laws.proofs.SpaceCounts.{top_is_high, all-by_numbers}
use Rattle.page_laws.proofs.PatchRanges.{first_in, patch-use}
use Rattle.page_laws.proofs.WrittenEntries.{patch-not_beneath, number-same, number-patched}

-- the table of a patch, below the top one
record HasPatch (settings : Settings) (patches : List Patch) (table : TableUse) : Type 0 where
  patch : Patch
  is_in : IsIn patch patches
  is_table : patch.table ≡ table
  lower : patch.table.level < top_level settings

-- no two patches are of one table, but for the top one
abbrev AreOfOthers : Settings → List Patch → Type 0
AreOfOthers settings [] = Unit {0}
AreOfOthers settings (one ∷ rest) =
    ((patch : Patch) → IsIn patch rest → one.table.level < top_level settings → patch.table ≡ one.table → ⊥) × AreOfOthers settings rest

module _ (one other : Memory) (settings : Settings) where
  -- a patch of the top table
  record IsTop (patch : Patch) : Type 0 where
    top : patch.table.level < top_level settings → ⊥
    none : pages_in_patch one settings patch ≡ 0
    none_there : pages_in_patch other settings patch ≡ 0

  -- one of a table that is left
  record IsChange (left : List TableUse) (patch : Patch) : Type 0 where
    lower : patch.table.level < top_level settings
    is_left : IsIn patch.table left
    change : page_number other settings patch.table + pages_in_patch one settings patch
        ≡ page_number one settings patch.table + pages_in_patch other settings patch

  same_numbers : (left : List TableUse) → ((table : TableUse) → IsIn table left → page_number other settings table ≡ page_number one settings table)
      → page_numbers other settings left ≡ page_numbers one settings left
  same_numbers [] same = refl
  same_numbers (table ∷ rest) same =
      let here = same table (inl refl) in
      let there = same_numbers rest (λ it is. same it (inr is)) in
      omega arith

  later_patch : (first : Patch) (rest : List Patch) (table : TableUse) → HasPatch settings (first ∷ rest) table
      → (first.table.level < top_level settings → first.table ≡ table → ⊥) → HasPatch settings rest table
  later_patch first rest table has never = elim has.is_in [
    | inl same ↦
        absurd (never (subst (λ (it : Patch). it.table.level < top_level settings) same has.lower)
        (subst (λ (it : Patch). it.table ≡ table) same has.is_table))
    | inr there ↦ record { patch = has.patch; is_in = there; is_table = has.is_table; lower = has.lower }
  ]

  -- where each table changes by its patch, the sum changes by the sum of the patches
  changed-sum : (patches : List Patch) (left : List TableUse) → AreDistinct left → AreOfOthers settings patches
      → ((patch : Patch) → IsIn patch patches → (IsTop patch ⊎ IsChange left patch))
      → ((table : TableUse) → IsIn table left → ((page_number other settings table ≡ page_number one settings table) ⊎ HasPatch settings patches table))
      → page_numbers other settings left + pages_in_patches one settings patches
      ≡ page_numbers one settings left + pages_in_patches other settings patches
  changed-sum [] left distinct apart each tables =
      let same = same_numbers left (λ table is. elim (tables table is) [ inl stays ↦ stays | inr has ↦ absurd has.is_in ]) in
      omega arith
  changed-sum (first ∷ rest) left distinct apart each tables = elim (each first (inl refl)) [
    | inl high ↦
        let deeper = changed-sum rest left distinct apart.1 (λ patch is. each patch (inr is))
        (λ table is. elim (tables table is) [
          | inl stays ↦ inl stays
          | inr has ↦ inr (later_patch first rest table has (λ lower same. high.top lower))
        ]) in
        omega (arith, high.none, high.none_there)
    | inr here ↦
        let parts = parts_at first.table left here.is_left in
        let there : AreDistinct (parts.before ++ first.table ∷ parts.after) = subst (λ (it : List TableUse). AreDistinct it) parts.is distinct in
        let deeper = changed-sum rest (parts.before ++ parts.after) (rest-distinct parts.before parts.after first.table there) apart.1
        (λ patch is. elim (each patch (inr is)) [
          | inl high ↦ inl high
          | inr lower ↦
              inr (record {
                lower = lower.lower;
                is_left = in_the_rest parts.before parts.after first.table patch.table
                    (subst (λ (it : List TableUse). IsIn patch.table it) parts.is lower.is_left) (λ same. apart.0 patch is here.lower same);
                change = lower.change;
              })
        ])
        (λ table is. elim (tables table (subst (λ (it : List TableUse). IsIn table it) (sym parts.is) (in_the_whole parts.before parts.after first.table table is))) [
          | inl stays ↦ inl stays
          | inr has ↦
              inr (later_patch first rest table has
              (λ lower same. one-is_out parts.before parts.after first.table there
              (subst (λ (it : TableUse). IsIn it (parts.before ++ parts.after)) (sym same) is)))
        ]) in
        let whole = ap (page_numbers one settings) parts.is ∙ page_numbers-parts one settings parts.before parts.after first.table in
        let whole_there = ap (page_numbers other settings) parts.is ∙ page_numbers-parts other settings parts.before parts.after first.table in
        omega (arith, here.change)
  ]

-- a patch ends before each later one begins
after-first : (first : Patch) (rest : List Patch) → AreSeparate (first ∷ rest) → ((patch : Patch) → IsIn patch (first ∷ rest) → low_of patch < high_of patch)
    → (patch : Patch) → IsIn patch rest → high_of first ≤ low_of patch
after-first first [] ascending some patch is = absurd is
after-first first (second ∷ rest) ascending some patch (inl same) = subst (λ (it : Patch). high_of first ≤ low_of it) (sym same) ascending.0
after-first first (second ∷ rest) ascending some patch (inr is) =
    let far = after-first second rest ascending.1 (λ it there. some it (inr there)) patch is in
    let here = some second (inr (inl refl)) in
    omega (arith, ascending.0)

later-ascending : (first : Patch) (rest : List Patch) → AreSeparate (first ∷ rest) → AreSeparate rest
later-ascending first [] ascending = tt
later-ascending first (second ∷ rest) ascending = ascending.1

of-others : (settings : Settings) (patches : List Patch) → AreSeparate patches → ((patch : Patch) → IsIn patch patches → low_of patch < high_of patch)
    → HaveOwnTables settings patches → AreOfOthers settings patches
of-others settings [] ascending some own = tt
of-others settings (first ∷ rest) ascending some own = (
  λ patch is lower same.
      let is_same : first ≡ patch =
      own first patch (inl refl) (inr is) lower (ap (λ (it : TableUse). it.level) (sym same)) (ap (λ (it : TableUse). it.prefix) (sym same)) in
      let far = after-first first rest ascending some patch is in
      let here = some first (inl refl) in
      let starts = ap low_of is_same in
      omega arith,
  of-others settings rest (later-ascending first rest ascending) (λ patch is. some patch (inr is))
      (λ one other is is_other lower level prefix. own one other (inr is) (inr is_other) lower level prefix),
)

-- a use by its place
record IsPatchAt (patches : List Patch) (table : TableUse) : Type 0 where
  patch : Patch
  is_in : IsIn patch patches
  level : patch.table.level ≡ table.level
  prefix : patch.table.prefix ≡ table.prefix

abbrev NoneAt : List Patch → TableUse → Type 0
NoneAt patches table = (patch : Patch) → IsIn patch patches → patch.table.level ≡ table.level → patch.table.prefix ≡ table.prefix → ⊥

one_or_other : (m n : ℕ) → ((m ≡ n) ⊎ (m ≡ n → ⊥))
one_or_other m n = elim (cases_lt m n) [
  | inl less ↦ inr (λ same. omega arith)
  | inr least ↦ elim (cases_lt n m) [ inl more ↦ inr (λ same. omega arith) | inr most ↦ inl (omega arith) ]
]

none-more : (first : Patch) (rest : List Patch) (table : TableUse) → NoneAt rest table
    → (first.table.level ≡ table.level → first.table.prefix ≡ table.prefix → ⊥) → NoneAt (first ∷ rest) table
none-more first rest table none never patch (inl same) level prefix =
    never (subst (λ (it : Patch). it.table.level ≡ table.level) same level) (subst (λ (it : Patch). it.table.prefix ≡ table.prefix) same prefix)
none-more first rest table none never patch (inr is) level prefix = none patch is level prefix

patch_at-or_none : (patches : List Patch) (table : TableUse) → (IsPatchAt patches table ⊎ NoneAt patches table)
patch_at-or_none [] table = inr (λ patch is level prefix. is)
patch_at-or_none (first ∷ rest) table = elim (patch_at-or_none rest table) [
  | inl at ↦ inl (record { patch = at.patch; is_in = inr at.is_in; level = at.level; prefix = at.prefix })
  | inr none ↦ elim (one_or_other first.table.level table.level) [
    | inr differs ↦ inr (none-more first rest table none (λ level prefix. differs level))
    | inl level ↦ elim (one_or_other first.table.prefix table.prefix) [
      | inr differs ↦ inr (none-more first rest table none (λ same prefix. differs prefix))
      | inl prefix ↦ inl (record { patch = first; is_in = inl refl; level = level; prefix = prefix })
    ]
  ]
]

module _ (memory : Memory) (settings : Settings) where
  -- the pages that are found from patches are those of their entries and those of the tables below them
  found_in-by_numbers : (patches : List Patch)
      → length (leaves_in_patches memory settings patches)
      ≡ pages_in_patches memory settings patches + page_numbers memory settings (uses_in_patches memory settings patches)
  found_in-by_numbers [] = refl
  found_in-by_numbers (patch ∷ rest) =
      let here = leaves-by_numbers memory settings patch.table.level patch.table.frame patch.table.prefix patch.table.bits patch.from patch.count in
      let there = found_in-by_numbers rest in
      let leaves = length-append (leaves_in_patch memory settings patch) (leaves_in_patches memory settings rest) in
      let uses = page_numbers-append memory settings (uses_in_patch memory settings patch) (uses_in_patches memory settings rest) in
      omega arith

module _ (written : ℕ → Bool) (one other : Memory) (settings : Settings) (root : ℕ) (patches : List Patch) where
  module _ (all left : List TableUse) (alike : AreAlikeBut written one other) (are : ArePatches one written settings root patches)
      (own : HaveOwnTables settings patches) (are_all : AreAll (IsUse one settings root) all) (are_left : AreUsesLeft patches all left) where
    table-left : (patch : Patch) → IsIn patch patches → (lower : patch.table.level < top_level settings) → IsIn patch.table left
    table-left patch is lower =
        elim (are_left.others patch.table (are_all.all patch.table (patch-use written one settings root patch (are.each patch is) lower))) [
          | inl stays ↦ stays
          | inr beneath ↦ absurd (patch-not_beneath written one settings root patches are patch is lower beneath)
        ]

    patch-change : (patch : Patch) → IsIn patch patches → (IsTop one other settings patch ⊎ IsChange one other settings left patch)
    patch-change patch is = elim (cases_lt patch.table.level (top_level settings)) [
      | inl lower ↦
          inr (record {
            lower = lower;
            is_left = table-left patch is lower;
            change = number-patched written one other settings root patches patch alike are own is lower;
          })
      | inr top ↦
          let high = top_is_high settings in
          inl (record {
            top = λ lower. omega arith;
            none = high-none one settings patch.table.level patch.table.frame patch.from patch.count (omega arith);
            none_there = high-none other settings patch.table.level patch.table.frame patch.from patch.count (omega arith);
          })
    ]

    table-change : (table : TableUse) → IsIn table left
        → ((page_number other settings table ≡ page_number one settings table) ⊎ HasPatch settings patches table)
    table-change table is = elim (cases_lt table.level (top_level settings)) [
      | inr top ↦
          let high = top_is_high settings in
          let none = high-none one settings table.level table.frame 0 512 (omega arith) in
          let none_there = high-none other settings table.level table.frame 0 512 (omega arith) in
          inl (omega arith)
      | inl lower ↦
          let is_use = are_all.some.have table (are_left.were table is) in
          elim (patch_at-or_none patches table) [
            | inr none ↦ inl (number-same written one other settings root patches table alike are is_use (are_left.none table is) none lower)
            | inl at ↦
                let below : at.patch.table.level < top_level settings = omega (arith, at.level) in
                inr (record {
                  patch = at.patch;
                  is_in = at.is_in;
                  is_table = use_is_one at.patch.table table (patch-use written one settings root at.patch (are.each at.patch at.is_in) below) is_use at.level at.prefix;
                  lower = below;
                })
          ]
    ]

  -- the tables that are left map as many pages as before, but for the entries of the patches
  pub numbers-left : (all left : List TableUse) → AreAlikeBut written one other → ArePatches one written settings root patches
      → HaveOwnTables settings patches → AreAll (IsUse one settings root) all → AreUsesLeft patches all left
      → page_numbers other settings left + pages_in_patches one settings patches
      ≡ page_numbers one settings left + pages_in_patches other settings patches
  numbers-left all left alike are own are_all are_left =
      changed-sum one other settings patches left are_left.distinct
      (of-others settings patches are.ascending (λ patch is. first_in written one settings root patch (are.each patch is)) own)
      (patch-change all left alike are own are_all are_left) (table-change all left alike are own are_all are_left)

  -- so many pages the space has after the write
  pub pages-updated-count : (all left : List TableUse) (n : ℕ) → AreAlikeBut written one other → ArePatches one written settings root patches
      → HaveOwnTables settings patches → AreAll (IsUse one settings root) all → AreUsesLeft patches all left
      → AreAll (IsUse other settings root) (left ++ uses_in_patches other settings patches)
      → n + pages_in_patches one settings patches ≡ page_numbers one settings left
      → Count (IsLeaf other settings root) (n + length (leaves_in_patches other settings patches))
  pages-updated-count all left n alike are own are_all are_left uses is =
      let count = all-by_numbers other settings root (left ++ uses_in_patches other settings patches) uses in
      let change = numbers-left all left alike are own are_all are_left in
      let found = found_in-by_numbers other settings patches in
      let both = page_numbers-append other settings left (uses_in_patches other settings patches) in
      subst (λ (k : ℕ). Count (IsLeaf other settings root) k) (omega arith) count
