-- What is true of a space after a write, once its patches were walked and counted.
use Rattle.std.proofs.Common.{◌≡◌, ℕ, zero, suc, ◌+◌, ◌-◌, ◌*◌, ◌%◌, ◌^◌, ◌<◌, ◌≤◌, inl, inr, Bool, true, false, Option, None, List, [], ◌∷◌, ◌++◌, length, get_or, refl, sym, ap, ◌∙◌, subst, arith, length-append}
use Rattle.std.specs.Prelude.{IsTrue, map, sum, if◌then◌else◌}
use Rattle.std.proofs.lemmas.Bool.{cases_lt}
use Rattle.std.proofs.Math.Nat.{mul-le-mul_right}
use Rattle.paging_model.specs.Counting.{IsIn, AreAll, AreDistinct, Count}
use Rattle.paging_model.specs.LinearAddress.{is_canonical, span}
use Rattle.paging_model.specs.Listings.{AreRegions, AreStretches, Stretch, target_in}
use Rattle.paging_model.specs.Memory.{Memory}
use Rattle.paging_model.specs.TableUses.{Reaches, IsUse, IsLeaf, IsTooLarge, IsWithinLimits, use_limit, leaf_limit}
use Rattle.paging_model.specs.Translations.{Target, Protection}
use Rattle.paging_model.specs.Walking.{top_level}
use Rattle.paging_model.specs.declared.registers.Settings.{Settings}
use Rattle.paging_model.specs.declared.spaces.Region.{Region}
use Rattle.paging_model.specs.declared.spaces.SpaceKey.{SpaceKey}
use Rattle.paging_model.specs.declared.spaces.TableUse.{TableUse}
use Rattle.paging_laws.proofs.Membership.{in-append, append-left, append-right}
use Rattle.paging_laws.proofs.Reaching.{Reaches-level, Reaches-one, Reaches-top, use_is_one}
use Rattle.paging_laws.proofs.SlotRanges.{span_least}
use Rattle.frame_index.specs.CountedUses.{HaveOwnPlaces as HaveOwnUses, pages_counted}
use Rattle.frame_index.specs.declared.counted_use.CountedUse.{CountedUse}
use Rattle.kept_laws.specs.PageNumbers.{page_number, pages_in, pages_in_patch}
use Rattle.kept_laws.specs.Patches.{ArePatches, AreSeparate, IsPatchedMap, high_of, leaves_in_patches, low_of, uses_in_patches}
use Rattle.kept_laws.specs.WrittenPlaces.{AreAlikeBut}
use Rattle.kept_laws.specs.declared.patches.Patch.{Patch}
use Rattle.page_laws.specs.PatchEntries.{HaveOwnTables}
use Rattle.page_laws.proofs.LeftCounts.{pages-updated-count}
use Rattle.page_laws.proofs.PageCounts.{high-none}
use Rattle.page_laws.proofs.PatchRanges.{first_in, some_level, patch-use}
use Rattle.page_laws.proofs.SpaceCounts.{top_is_high}
use Rattle.page_laws.proofs.WrittenEntries.{number-same, number-patched, patch-not_beneath}
use Rattle.patch_laws.proofs.PatchRanges.{found-beneath_one}
use Rattle.patch_laws.proofs.SpaceUpdates.{patches-there, pages-updated, canonical-updated, uses-updated}
use Rattle.region_map.specs.Coalesced.{AreCoalesced, IsCopied, stretches, target_at}
use Rattle.region_map.proofs.Joining.{target_in-outside}
use Rattle.space_map.specs.PartialSpaces.{ExceedsLimits}
use Rattle.space_map.specs.PatchWalks.{AreNumberChanges, AreFramed, AreLeft, AreNumbered, ArePatchesWalked, AreShaped, AreOfOwnUses, HaveSameTables, IsChange, IsOfPatch, IsShaped, patches_end, patches_start, index_tables}
use Rattle.space_map.specs.TrueSpaces.{IsCountedUse}
use Rattle.space_map.specs.WalkedIndexes.{IsJoined, with_page_number}
use Rattle.space_map.specs.declared.partial.PartialSpace.{PartialSpace}
use Rattle.space_map.proofs.BuiltSpaces.{are-stretches}
use Rattle.space_map.proofs.FramedTables.{reaches-frame}
use Rattle.space_map.proofs.IndexTables.{table-in, use-of_table, tables-many}
use Rattle.space_map.proofs.LeftIndexes.{all-tables, few-left, few-pages, tables-left, not-beneath, numbers-outside}
use Rattle.space_map.proofs.PageCounts.{pages-at_most, pages-of_part}
use Rattle.space_map.proofs.IndexWalks.{joined-none}
use Rattle.space_map.proofs.PatchPasses.{patch-ends}
use Rattle.space_map.proofs.Recounts.{tables-same}
use Rattle.space_map.proofs.Removals.{left-begins}

five-at_most : (five_levels : Bool) → (if five_levels then 5 else 4) ≤ 5
five-at_most true = omega arith
five-at_most false = omega arith

-- patches that walks come to can be walked
pub shapes : (written : ℕ → Bool) (memory : Memory) (settings : Settings) (root : ℕ) (patches : List Patch) → root % 4096 ≡ 0 → root < 2 ^ 52
    → ArePatches memory written settings root patches → AreShaped patches
shapes written memory settings root patches aligned below are patch is =
    let one = are.each patch is in
    let reached = one.reached.reached (low_of patch) (omega arith) (first_in written memory settings root patch one) in
    record {
      walkable = record {
        least = some_level written memory settings root patch one;
        most = omega (arith, Reaches-level reached, five-at_most settings.la57);
        framed = reaches-frame aligned below reached;
        begins = one.reached.whole;
        ends = one.reached.ends;
      };
      some = one.some;
      slots = one.reached.slots;
    }

page-long : (patch : Patch) → IsShaped patch → low_of patch + 4096 ≤ high_of patch
page-long patch shape =
    let page = span_least patch.table.level in
    let more : (patch.from + 1) * span patch.table.level ≤ (patch.from + patch.count) * span patch.table.level =
    mul-le-mul_right (span patch.table.level) (let n : patch.from + 1 ≤ patch.from + patch.count = omega (arith, shape.some) in n) in
    omega (arith, page, more)

-- so many patches, of a page at least each, end so far from where they begin
pub patches-long : (start : ℕ) (patches : List Patch) → AreShaped patches → AreSeparate patches → (0 < length patches → start ≤ patches_start patches)
    → start + 4096 * length patches ≤ patches_end start patches
patches-long start [] shaped ascending begins = omega arith
patches-long start (one ∷ []) shaped ascending begins =
    let long = page-long one (shaped one (inl refl)) in
    omega (arith, long, begins (omega arith))
patches-long start (one ∷ two ∷ rest) shaped ascending begins =
    let long = page-long one (shaped one (inl refl)) in
    let later = patches-long (high_of one) (two ∷ rest) (λ patch is. shaped patch (inr is)) ascending.1 (λ some. ascending.0) in
    omega (arith, long, begins (omega arith), later)

pub last-ends : (start : ℕ) (patches : List Patch) (d : Patch) → 1 ≤ length patches → high_of (get_or patches (length patches - 1) d) ≡ patches_end start patches
last-ends start [] d some = absurd (omega (arith, some))
last-ends start (one ∷ []) d some = refl
last-ends start (one ∷ two ∷ rest) d some =
    let same : length (one ∷ two ∷ rest) - 1 ≡ suc (length (two ∷ rest) - 1) = omega arith in
    ap (λ (n : ℕ). high_of (get_or (one ∷ two ∷ rest) n d)) same ∙ last-ends (high_of one) (two ∷ rest) d (omega arith)

pub last-shape : (patches : List Patch) (d : Patch) → 1 ≤ length patches → AreShaped patches → IsShaped (get_or patches (length patches - 1) d)
last-shape [] d some shaped = absurd (omega (arith, some))
last-shape (one ∷ []) d some shaped = shaped one (inl refl)
last-shape (one ∷ two ∷ rest) d some shaped =
    let same : length (one ∷ two ∷ rest) - 1 ≡ suc (length (two ∷ rest) - 1) = omega arith in
    subst (λ (n : ℕ). IsShaped (get_or (one ∷ two ∷ rest) n d)) (sym same) (last-shape (two ∷ rest) d (omega arith) (λ patch is. shaped patch (inr is)))

patches-end : (start : ℕ) (patches : List Patch) → AreShaped patches → 1 ≤ length patches → patches_end start patches ≤ 2 ^ 64
patches-end start [] shaped some = absurd (omega (arith, some))
patches-end start (one ∷ []) shaped some = patch-ends one (shaped one (inl refl))
patches-end start (one ∷ two ∷ rest) shaped some = patches-end (high_of one) (two ∷ rest) (λ patch is. shaped patch (inr is)) (omega arith)

pub few-patches : (patches : List Patch) → AreShaped patches → AreSeparate patches → 1 ≤ length patches → length patches ≤ 2 ^ 52
few-patches patches shaped ascending some =
    omega (arith, patches-long (patches_start patches) patches shaped ascending (λ more. omega arith), patches-end (patches_start patches) patches shaped some)

-- how many pages the entries of each patch map is a small number
pub small-numbers : (memory : Memory) (settings : Settings) (patches : List Patch) → AreShaped patches → (numbers : List ℕ)
    → numbers ≡ map (λ (patch : Patch). pages_in_patch memory settings patch) patches → (i : ℕ) → get_or numbers i 0 ≤ 512
small-numbers memory settings patches shaped numbers is i =
    subst (λ (it : List ℕ). get_or it i 0 ≤ 512) (sym is) (small patches shaped i)
  where
    small : (some : List Patch) → AreShaped some → (k : ℕ) → get_or (map (λ (patch : Patch). pages_in_patch memory settings patch) some) k 0 ≤ 512
    small [] shapes k = omega arith
    small (one ∷ rest) shapes zero = omega (arith, pages-at_most memory settings one.table.level one.table.frame one.from one.count, (shapes one (inl refl)).slots)
    small (one ∷ rest) shapes (suc k) = small rest (λ patch is_in. shapes patch (inr is_in)) k

-- each patch lies between where the first one begins and where the last one ends
patches-from : (start : ℕ) (patches : List Patch) → AreShaped patches → AreSeparate patches → (0 < length patches → start ≤ patches_start patches)
    → (patch : Patch) → IsIn patch patches → (start ≤ low_of patch) × (high_of patch ≤ patches_end start patches)
patches-from start [] shaped ascending begins patch is = absurd is
patches-from start (one ∷ []) shaped ascending begins patch (inl same) =
    (omega (arith, begins (omega arith), ap low_of same), omega (arith, ap high_of same))
patches-from start (one ∷ []) shaped ascending begins patch (inr never) = absurd never
patches-from start (one ∷ two ∷ rest) shaped ascending begins patch (inl same) =
    let later = patches-long (high_of one) (two ∷ rest) (λ other is. shaped other (inr is)) ascending.1 (λ some. ascending.0) in
    (omega (arith, begins (omega arith), ap low_of same), omega (arith, later, ap high_of same))
patches-from start (one ∷ two ∷ rest) shaped ascending begins patch (inr is) =
    let later = patches-from (high_of one) (two ∷ rest) (λ other is. shaped other (inr is)) ascending.1 (λ some. ascending.0) patch is in
    let long = page-long one (shaped one (inl refl)) in
    (omega (arith, begins (omega arith), long, later.0), later.1)

pub patches-within : (patches : List Patch) → AreShaped patches → AreSeparate patches → (patch : Patch) → IsIn patch patches
    → (patches_start patches ≤ low_of patch) × (high_of patch ≤ patches_end (patches_start patches) patches)
patches-within patches shaped ascending patch is = patches-from (patches_start patches) patches shaped ascending (λ some. omega arith) patch is

pub first-before-last : (patches : List Patch) → AreShaped patches → AreSeparate patches → 1 ≤ length patches → (first last : ℕ)
    → first ≡ patches_start patches → last + 1 ≡ patches_end (patches_start patches) patches → first < last
first-before-last patches shaped ascending some first last begins ends =
    omega (arith, begins, ends, patches-long (patches_start patches) patches shaped ascending (λ more. omega arith), some)

-- what is mapped by regions of a space is canonical
canonical-of : {Kind : Type 0} (five_levels : Bool) (list : List (Stretch Kind)) → AreStretches five_levels list → (x : ℕ)
    → (target_in list x ≡ None → ⊥) → IsTrue (is_canonical five_levels x)
canonical-of five_levels [] are x some = absurd (some refl)
canonical-of five_levels (one ∷ rest) are x some = elim (cases_lt x one.first) [
  | inl before ↦
      canonical-of five_levels rest are.1 x (λ none. some (target_in-outside one rest x (inl before) ∙ none))
  | inr from ↦ elim (cases_lt one.last x) [
    | inl after ↦
        canonical-of five_levels rest are.1 x (λ none. some (target_in-outside one rest x (inr after) ∙ none))
    | inr to ↦ are.0.canonical x from to
  ]
]

own-one : (patches : List Patch) → AreOfOwnUses patches → (one other : Patch) → IsIn one patches → IsIn other patches
    → one.table.level ≡ other.table.level → one.table.prefix ≡ other.table.prefix → one ≡ other
own-one [] own one other is is' level prefix = absurd is
own-one (first ∷ rest) own one other (inl same) (inl same') level prefix = same ∙ sym same'
own-one (first ∷ rest) own one other (inl same) (inr is') level prefix =
    absurd (own.0 other is' (sym level ∙ ap (λ (it : Patch). it.table.level) same) (sym prefix ∙ ap (λ (it : Patch). it.table.prefix) same))
own-one (first ∷ rest) own one other (inr is) (inl same') level prefix =
    absurd (own.0 one is (level ∙ ap (λ (it : Patch). it.table.level) same') (prefix ∙ ap (λ (it : Patch). it.table.prefix) same'))
own-one (first ∷ rest) own one other (inr is) (inr is') level prefix = own-one rest own.1 one other is is' level prefix

module _ (written : ℕ → Bool) (old new : Memory) (key : SpaceKey) (patches : List Patch) (alike : AreAlikeBut written old new)
    (are : ArePatches old written key.settings key.root patches) (own : AreOfOwnUses patches) (index left : List CountedUse)
    (all : AreAll (IsCountedUse old key) index) (are_left : AreLeft patches index left) (own_uses : HaveOwnUses left) where
  own-tables : HaveOwnTables key.settings patches
  own-tables one other is is' lower level prefix = own-one patches own one other is is' level prefix

  -- how many pages the entries of a table map before and after
  abbrev pub was : TableUse → ℕ
  was table = page_number old key.settings table

  abbrev pub now : TableUse → ℕ
  now table = page_number new key.settings table

  pub all-after : AreAll (IsUse new key.settings key.root) (index_tables left ++ uses_in_patches new key.settings patches)
  all-after =
      uses-updated written old new key.settings key.root patches (index_tables index) (index_tables left) alike are (all-tables old key index all)
      (tables-left written old key patches are index left all are_left own_uses)

  there : ArePatches new written key.settings key.root patches
  there = patches-there written old new key.settings key.root patches alike are

  patch-level : (patch : Patch) → IsIn patch patches → patch.table.level ≤ top_level key.settings
  patch-level patch is =
      let one = are.each patch is in
      Reaches-level (one.reached.reached (low_of patch) (omega arith) (first_in written old key.settings key.root patch one))

  -- at the place of a patch below the top level stands its own table
  own-table : (patch : Patch) → IsIn patch patches → (table : TableUse) → IsUse new key.settings key.root table → IsOfPatch patch table
      → table.frame ≡ patch.table.frame
  own-table patch is table is_use at = elim (cases_lt patch.table.level (top_level key.settings)) [
    | inl lower ↦
        ap (λ (it : TableUse). it.frame)
        (use_is_one table patch.table is_use (patch-use written new key.settings key.root patch (there.each patch is) lower) (sym at.0) (sym at.1))
    | inr most ↦
        let top : patch.table.level ≡ top_level key.settings = omega (arith, most, patch-level patch is) in
        let one = there.each patch is in
        let reached = Reaches-top {y = table.prefix} top (one.reached.reached (low_of patch) (omega arith) (first_in written new key.settings key.root patch one)) in
        let here = subst (λ (n : ℕ). Reaches new key.settings key.root n table.prefix table.frame table.bits) (sym at.0) is_use.reached in
        (Reaches-one patch.table.level table.frame patch.table.frame table.bits patch.table.bits here reached).0
  ]

  -- no table that is found beneath patches is a patch's own
  never-found : (patch : Patch) → IsIn patch patches → (table : TableUse) → IsIn table (uses_in_patches new key.settings patches) → IsOfPatch patch table → ⊥
  never-found patch is table found at =
      let upper = found-beneath_one new key.settings patches table found in
      elim (cases_lt patch.table.level (top_level key.settings)) [
        | inl lower ↦
            patch-not_beneath written old key.settings key.root patches are patch is lower
            (record {
              patch = upper.patch;
              is_in = upper.is_in;
              beneath = record {
                lower = omega (arith, upper.beneath.lower, at.0);
                low = omega (arith, upper.beneath.low, at.1);
                high = omega (arith, upper.beneath.high, at.1);
              };
            })
        | inr most ↦ omega (arith, most, at.0, upper.beneath.lower, patch-level upper.patch upper.is_in)
      ]

  module _ (between : List CountedUse) (joined : IsJoined new key.settings (uses_in_patches new key.settings patches) left between) where
    between-use : (one : CountedUse) → IsIn one between → IsUse new key.settings key.root one.table
    between-use one is = elim (joined.each one is) [
      | inl stays ↦ all-after.some.have one.table (append-left (index_tables left) (uses_in_patches new key.settings patches) one.table (table-in left one stays))
      | inr found ↦ all-after.some.have one.table (append-right (index_tables left) (uses_in_patches new key.settings patches) one.table found.0)
    ]

    pub between-framed : AreFramed patches between
    between-framed patch is one is_in at = own-table patch is one.table (between-use one is_in) at

    same-number : (one : CountedUse) → IsIn one left → ((patch : Patch) → IsIn patch patches → IsOfPatch patch one.table → ⊥)
        → was one.table ≡ now one.table
    same-number one is none =
        let here = all.some.have one (are_left.were one is) in
        elim (cases_lt one.table.level (top_level key.settings)) [
          | inl lower ↦
              sym (number-same written old new key.settings key.root patches one.table alike are here.is_use
              (not-beneath written old key patches are index left all are_left one is)
              (λ patch is_in level prefix. none patch is_in (level, prefix)) lower)
          | inr top ↦
              let high = top_is_high key.settings in
              high-none old key.settings one.table.level one.table.frame 0 512 (omega (arith, top, high))
              ∙ sym (high-none new key.settings one.table.level one.table.frame 0 512 (omega (arith, top, high)))
        ]

    pub between-numbered : AreNumbered was now patches between
    between-numbered = record {
      waiting = λ one is_in patch is at. elim (joined.each one is_in) [
        | inl stays ↦ (all.some.have one (are_left.were one stays)).pages
        | inr found ↦ absurd (never-found patch is one.table found.0 at)
      ];
      settled = λ one is_in none. elim (joined.each one is_in) [
        | inl stays ↦ (all.some.have one (are_left.were one stays)).pages ∙ same-number one stays none
        | inr found ↦ found.1
      ];
    }

    before-of : (table : TableUse) → IsUse new key.settings key.root table → (one : CountedUse) × IsIn one between × (one.table ≡ table)
    before-of table is_use = elim (in-append (index_tables left) (uses_in_patches new key.settings patches) table (all-after.all table is_use)) [
      | inl stays ↦ let one = use-of_table left table stays in (one.0, joined.was one.0 one.1, one.2)
      | inr found ↦ (with_page_number new key.settings table, joined.is table found, refl)
    ]

    -- the tables are those of all uses, and so the numbers decide
    pub counted-after : (final : List CountedUse) → HaveSameTables between final → AreNumbered was now [] final → AreDistinct final
        → AreAll (IsCountedUse new key) final
    counted-after final same numbered distinct = record {
      some = record {
        have = λ one is.
            let before = same.were one is in
            record {
              is_use = subst (λ (it : TableUse). IsUse new key.settings key.root it) before.2 (between-use before.0 before.1);
              pages = numbered.settled one is (λ patch never at. never);
            };
        distinct = distinct;
      };
      all = λ one has.
          let before = before-of one.table has.is_use in
          let after = same.stay before.0 before.1 in
          let table : after.0.table ≡ one.table = after.2 ∙ before.2 in
          let pages : after.0.pages ≡ one.pages =
          numbered.settled after.0 after.1 (λ patch never at. never) ∙ (ap now table ∙ sym has.pages) in
          let is_one : after.0 ≡ one =
          ap (λ (it : TableUse). record { table = it; pages = after.0.pages }) table ∙ ap (λ (n : ℕ). record { table = one.table; pages = n }) pages in
          subst (λ (it : CountedUse). IsIn it final) is_one after.1;
    }

  -- the numbers before and after, of a patch and of its table
  number-of : (memory : Memory) (one other : TableUse) → one.level ≡ other.level → one.frame ≡ other.frame
      → page_number memory key.settings one ≡ page_number memory key.settings other
  number-of memory one other level frame =
      ap (λ (n : ℕ). pages_in memory key.settings n one.frame 0 512) level ∙ ap (λ (n : ℕ). pages_in memory key.settings other.level n 0 512) frame

  change-of : (patch : Patch) → IsIn patch patches
      → IsChange was now patch (pages_in_patch old key.settings patch) (pages_in_patch new key.settings patch)
  change-of patch is = elim (cases_lt patch.table.level (top_level key.settings)) [
    | inl lower ↦
        let change = number-patched written old new key.settings key.root patches patch alike are own-tables is lower in
        record {
          same = λ table at.
              omega (arith, change, number-of old table patch.table (sym at.0.0) at.1, number-of new table patch.table (sym at.0.0) at.1);
          least = λ table at.
              omega (
                arith,
                number-of old table patch.table (sym at.0.0) at.1,
                pages-of_part old key.settings patch.table.level patch.table.frame patch.from patch.count (are.each patch is).reached.slots,
              );
          most = λ table at. omega (arith, pages-at_most new key.settings table.level table.frame 0 512);
        }
    | inr top ↦
        let high = top_is_high key.settings in
        let before = high-none old key.settings patch.table.level patch.table.frame patch.from patch.count (omega (arith, top, high)) in
        let after = high-none new key.settings patch.table.level patch.table.frame patch.from patch.count (omega (arith, top, high)) in
        record {
          same = λ table at.
              omega (
                arith,
                before,
                after,
                high-none old key.settings table.level table.frame 0 512 (omega (arith, top, high, at.0.0)),
                high-none new key.settings table.level table.frame 0 512 (omega (arith, top, high, at.0.0)),
              );
          least = λ table at. omega (arith, before);
          most = λ table at. omega (arith, pages-at_most new key.settings table.level table.frame 0 512);
        }
  ]

  changes-of : (some : List Patch) → ((patch : Patch) → IsIn patch some → IsIn patch patches)
      → AreNumberChanges was now some (map (λ (patch : Patch). pages_in_patch old key.settings patch) some) (map (λ (patch : Patch). pages_in_patch new key.settings patch) some)
  changes-of [] among = tt
  changes-of (one ∷ rest) among = (change-of one (among one (inl refl)), changes-of rest (λ patch is. among patch (inr is)))

  pub changes : (before after : List ℕ) → before ≡ map (λ (patch : Patch). pages_in_patch old key.settings patch) patches
      → after ≡ map (λ (patch : Patch). pages_in_patch new key.settings patch) patches → AreNumberChanges was now patches before after
  changes before after is_before is_after =
      subst (λ (it : List ℕ). AreNumberChanges was now patches it after) (sym is_before)
      (subst (λ (it : List ℕ). AreNumberChanges was now patches (map (λ (patch : Patch). pages_in_patch old key.settings patch) patches) it) (sym is_after)
      (changes-of patches (λ patch is. is)))

  -- the regions are those after the write, with the list of the patches in the place of what was between them
  module _ (old_regions part regions : List Region) (start done : PartialSpace) (pages : List ℕ) (some : 1 ≤ length patches) (shaped : AreShaped patches)
      (walked : ArePatchesWalked new key.settings patches (patches_start patches) (patches_end (patches_start patches) patches) (target_at old_regions) start done pages)
      (first last : ℕ) (begins : first ≡ patches_start patches) (ends : last + 1 ≡ patches_end (patches_start patches) patches)
      (copied : IsCopied first last (target_at done.regions) (target_at old_regions) (target_at regions)) where
    patch-within : (patch : Patch) → IsIn patch patches → (first ≤ low_of patch) × (high_of patch ≤ last + 1)
    patch-within patch is =
        let range = patches-within patches shaped are.ascending patch is in
        (omega (arith, begins, range.0), omega (arith, ends, range.1))

    patched-map : IsPatchedMap new key.settings patches (target_at old_regions) (target_at regions)
    patched-map = record {
      inside = λ patch is page whole low high.
          let range = patch-within patch is in
          copied.inside page (omega (arith, range.0, low)) (omega (arith, range.1, high)) ∙ walked.inside patch is page whole low high;
      outside = λ x none. elim (cases_lt x first) [
        | inl before ↦ copied.outside x (inl before)
        | inr from ↦ elim (cases_lt last x) [
          | inl after ↦ copied.outside x (inr after)
          | inr to ↦
              copied.inside x from to ∙ walked.between x (omega (arith, begins, from)) (omega (arith, ends, to)) none
        ]
      ];
    }

    pub regions-after : AreRegions old key.settings key.root old_regions → AreCoalesced (stretches regions)
        → AreRegions new key.settings key.root regions
    regions-after were coalesced = record {
      stretches =
          are-stretches key.settings.la57 (stretches regions) coalesced.ranges
          (canonical-updated written old new key.settings key.root patches (target_at old_regions) (target_at regions) are patched-map
          (canonical-of key.settings.la57 (stretches old_regions) were.stretches));
      apart = coalesced.apart;
      pages =
          pages-updated written old new key.settings key.root patches (target_at old_regions) (target_at regions) alike are patched-map were.pages;
    }

  -- the numbers of uses and pages after the write
  module _ (n : ℕ) (before : List ℕ) (is_before : before ≡ map (λ (patch : Patch). pages_in_patch old key.settings patch) patches)
      (outside : n ≡ pages_counted left - sum before) (within : IsWithinLimits old key.settings key.root) where
    leaves-after : Count (IsLeaf new key.settings key.root) (n + length (leaves_in_patches new key.settings patches))
    leaves-after =
        pages-updated-count written old new key.settings key.root patches (index_tables index) (index_tables left) n alike are own-tables (all-tables old key index all)
        (tables-left written old key patches are index left all are_left own_uses) all-after
        (numbers-outside written old key patches are index left all are_left own own_uses within n before is_before outside)

    uses-after : length (index_tables left ++ uses_in_patches new key.settings patches) ≡ length left + length (uses_in_patches new key.settings patches)
    uses-after = omega (arith, length-append (index_tables left) (uses_in_patches new key.settings patches), tables-many left)

    pub within-after : (uses leaves : ℕ) → uses ≡ length left + length (uses_in_patches new key.settings patches) → uses ≤ use_limit
        → leaves ≡ n + length (leaves_in_patches new key.settings patches) → leaves ≤ leaf_limit → IsWithinLimits new key.settings key.root
    within-after uses leaves uses_are few leaves_are few' = record {
      uses = record { things = index_tables left ++ uses_in_patches new key.settings patches; all = all-after; many = omega (arith, uses-after, uses_are, few) };
      leaves = record { things = leaves-after.things; all = leaves-after.all; many = omega (arith, leaves-after.many, leaves_are, few') };
    }

    pub too-large-after : (start : PartialSpace) → start.uses ≡ length left → start.leaves ≡ n
        → ExceedsLimits (length (uses_in_patches new key.settings patches)) (length (leaves_in_patches new key.settings patches)) start
        → IsTooLarge new key.settings key.root
    too-large-after start uses leaves (inl over) =
        inl (record {
          things = index_tables left ++ uses_in_patches new key.settings patches;
          some = all-after.some;
          many = omega (arith, uses-after, uses, over);
        })
    too-large-after start uses leaves (inr over) =
        inr (record { things = leaves-after.things; some = leaves-after.all.some; many = omega (arith, leaves-after.many, leaves, over) })

-- where no walk reads a written entry, all is as before
module _ (written : ℕ → Bool) (old new : Memory) (key : SpaceKey) (alike : AreAlikeBut written old new)
    (are : ArePatches old written key.settings key.root []) (index : List CountedUse) (all : AreAll (IsCountedUse old key) index)
    (own_uses : HaveOwnUses index) where
  nothing-joined : IsJoined new key.settings [] index index
  nothing-joined = joined-none new key.settings [] index index refl refl

  pub counted-still : AreAll (IsCountedUse new key) index
  counted-still =
      counted-after written old new key [] alike are tt index index all (left-begins index) own_uses index nothing-joined index (tables-same index)
      (between-numbered written old new key [] alike are tt index index all (left-begins index) own_uses index nothing-joined) all.some.distinct

  same-map : (target : ℕ → Option (Target Protection)) → IsPatchedMap new key.settings [] target target
  same-map target = record { inside = λ patch never. absurd never; outside = λ x none. refl }

  pub regions-still : (regions : List Region) → AreRegions old key.settings key.root regions → AreRegions new key.settings key.root regions
  regions-still regions were = record {
    stretches = were.stretches;
    apart = were.apart;
    pages =
        pages-updated written old new key.settings key.root [] (target_at regions) (target_at regions) alike are (same-map (target_at regions)) were.pages;
  }

  pub within-still : IsWithinLimits old key.settings key.root → IsWithinLimits new key.settings key.root
  within-still within =
      let few = few-left written old key [] are index index all (left-begins index) tt own_uses within in
      let few' = few-pages written old key [] are index index all (left-begins index) tt own_uses within in
      within-after written old new key [] alike are tt index index all (left-begins index) own_uses (pages_counted index - sum []) [] refl refl within
      (length index) (pages_counted index) (omega arith) few (omega arith) few'

pub own-places : (patches : List Patch) → AreDistinct patches
    → ((one other : Patch) → IsIn one patches → IsIn other patches → one.table.level ≡ other.table.level → one.table.prefix ≡ other.table.prefix → one ≡ other)
    → AreOfOwnUses patches
own-places [] distinct same = tt
own-places (one ∷ rest) distinct same = (
  λ patch is level prefix. distinct.0 (subst (λ (it : Patch). IsIn it rest) (same patch one (inr is) (inl refl) level prefix) is),
  own-places rest distinct.1 (λ p q is is'. same p q (inr is) (inr is')),
)

pub multiple-of_8 : (n : ℕ) → n % 4096 ≡ 0 → n % 8 ≡ 0
multiple-of_8 n whole = omega (arith, whole)

pub nothing-in : {Thing : Type 0} (things : List Thing) → length things ≡ 0 → things ≡ []
nothing-in [] none = refl
nothing-in (one ∷ rest) none = absurd (omega (arith, none))
