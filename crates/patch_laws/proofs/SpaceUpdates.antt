-- A space whose patches are walked again is the space after the write.
use Rattle.std.proofs.Common.{◌≡◌, ℕ, ◌^◌, ◌<◌, ◌≤◌, ◌⊎◌, inl, inr, Bool, true, false, List, ◌++◌, Option, None, refl, sym, ap, ◌∙◌, subst, arith}
use Rattle.std.specs.Prelude.{IsTrue}
use Rattle.std.proofs.lemmas.Bool.{cases_lt}
use Rattle.paging_model.specs.Counting.{IsIn, AreAll}
use Rattle.paging_model.specs.Memory.{Memory}
use Rattle.paging_model.specs.LinearAddress.{is_canonical, IsPage}
use Rattle.paging_model.specs.TableUses.{Serves, IsUse}
use Rattle.paging_model.specs.Translations.{Target, Protection, raw_target, raw_target_of}
use Rattle.paging_model.specs.declared.registers.Settings.{Settings}
use Rattle.paging_model.specs.declared.spaces.TableUse.{TableUse}
use Rattle.paging_laws.proofs.FoundUses.{all-uses_in}
use Rattle.paging_laws.proofs.Membership.{in-append, append-left, append-right, distinct-append}
use Rattle.paging_laws.proofs.Readings.{walk-reached}
use Rattle.kept_laws.specs.WrittenPlaces.{AreAlikeBut, ReadsNone, ReadsNoneAbove, IsOutermost}
use Rattle.kept_laws.specs.Patches.{low_of, high_of, IsPatched, IsPatch, ArePatches, uses_in_patches, IsBeneathOne, AreUsesLeft, IsPatchedMap}
use Rattle.kept_laws.specs.declared.patches.Patch.{Patch}
use Rattle.kept_laws.proofs.Unwritten.{alike-back, raw_target-unwritten, Reaches-there, none-above-there, outermost-there, none-or-first, use-there}
use Rattle.patch_laws.proofs.PatchRanges.{is-patched, found-from, from-found, found-beneath_one, found-distinct}

-- two memories that are alike but in written places have the same patches
module _ (written : ℕ → Bool) (one other : Memory) (settings : Settings) (root : ℕ) where
  pub patch-there : (patch : Patch) → AreAlikeBut written one other → IsPatch one written settings root patch
      → IsPatch other written settings root patch
  patch-there patch alike is = record {
    some = is.some;
    reached = record {
      whole = is.reached.whole;
      slots = is.reached.slots;
      ends = is.reached.ends;
      canonical = is.reached.canonical;
      reached = λ x low high.
          Reaches-there written one other settings root x alike patch.table.level (is.none_above x low high) (is.reached.reached x low high) (omega arith);
    };
    is_written = is.is_written;
    none_above = λ x low high. none-above-there written one other settings root x alike patch.table.level (is.none_above x low high);
  }

  pub patches-there : (patches : List Patch) → AreAlikeBut written one other → ArePatches one written settings root patches
      → ArePatches other written settings root patches
  patches-there patches alike are = record {
    each = λ patch is. patch-there patch alike (are.each patch is);
    all = λ x below canonical reads.
        are.all x below canonical (record {
          level = reads.level;
          table = reads.table;
          above = reads.above;
          outermost =
              outermost-there written other one settings root x (alike-back written one other alike) reads.level reads.table reads.above reads.outermost;
        });
    ascending = are.ascending;
  }

pub never_both : (b : Bool) → b ≡ true → b ≡ false → ⊥
never_both b is is_not = let both : true ≡ false = sym is ∙ is_not in cc

zero-canonical : (five_levels : Bool) → IsTrue (is_canonical five_levels 0)
zero-canonical true = refl
zero-canonical false = refl

-- a use begins at a canonical address
pub serves-below : (settings : Settings) (level prefix : ℕ) → Serves settings level prefix → prefix < 2 ^ 64
serves-below settings level prefix (inl top) = omega (arith, top.1)
serves-below settings level prefix (inr lower) = lower.2.below

pub serves-canonical : (settings : Settings) (level prefix : ℕ) → Serves settings level prefix → IsTrue (is_canonical settings.la57 prefix)
serves-canonical settings level prefix (inl top) =
    subst (λ (n : ℕ). IsTrue (is_canonical settings.la57 n)) (sym top.1) (zero-canonical settings.la57)
serves-canonical settings level prefix (inr lower) = lower.2.canonical

module _ (written : ℕ → Bool) (memory : Memory) (settings : Settings) (root : ℕ) where
  -- in a patch the first written place is read in the patch's table
  pub outermost-in : (patch : Patch) → IsPatch memory written settings root patch → (x : ℕ) → low_of patch ≤ x → x < high_of patch
      → IsOutermost memory written settings root x patch.table.level patch.table.frame patch.table.bits
  outermost-in patch is x low high = record {
    reached = is.reached.reached x low high;
    is_written = is.is_written x low high;
    none_above = is.none_above x low high;
  }

  module _ (patches : List Patch) (are : ArePatches memory written settings root patches) where
    pub patched-or-none : (x : ℕ) → x < 2 ^ 64 → IsTrue (is_canonical settings.la57 x)
        → (IsPatched patches x ⊎ ReadsNone memory written settings root x)
    patched-or-none x below canonical = elim (none-or-first written memory settings root x) [
      | inl none ↦ inr none
      | inr one ↦ inl (are.all x below canonical one)
    ]

    -- outside the patches no written place is read
    pub none-outside : (x : ℕ) → x < 2 ^ 64 → IsTrue (is_canonical settings.la57 x) → (IsPatched patches x → ⊥)
        → ReadsNone memory written settings root x
    none-outside x below canonical outside = elim (patched-or-none x below canonical) [
      | inl one ↦ absurd (outside one)
      | inr none ↦ none
    ]

    -- nor above a use that is beneath no patch
    pub none-above-use : (table : TableUse) → IsUse memory settings root table → (IsBeneathOne patches table → ⊥)
        → ReadsNoneAbove memory written settings root table.prefix table.level
    none-above-use table is outside =
        elim (patched-or-none table.prefix (serves-below settings table.level table.prefix is.serves) (serves-canonical settings table.level table.prefix is.serves)) [
          | inr none ↦ λ l t b more reached. none l t b reached
          | inl one ↦
              λ l t b more reached. elim (cases_lt table.level one.patch.table.level) [
                | inl lower ↦ absurd (outside (record { patch = one.patch; is_in = one.is_in; beneath = record { lower = lower; low = one.low; high = one.high } }))
                | inr above ↦ (are.each one.patch one.is_in).none_above table.prefix one.low one.high l t b (omega arith) reached
              ]
        ]

    -- above one that is beneath a patch one is read
    pub above-use : (table : TableUse) → ReadsNoneAbove memory written settings root table.prefix table.level → IsBeneathOne patches table → ⊥
    above-use table none one =
        let first = outermost-in one.patch (are.each one.patch one.is_in) table.prefix one.beneath.low one.beneath.high in
        never_both _ first.is_written (none one.patch.table.level one.patch.table.frame one.patch.table.bits one.beneath.lower first.reached)

    -- what is found from the patches are the uses beneath them
    pub found-use : (table : TableUse) → IsIn table (uses_in_patches memory settings patches) → IsUse memory settings root table
    found-use table is =
        let it = found-from memory settings patches table is in
        let patch = it.patch in
        ((all-uses_in memory settings root patch.table.level patch.table.frame patch.table.prefix patch.table.bits patch.from patch.count
        (are.each patch it.is_in).reached).some.have table it.here).is_use

    pub use-found : (table : TableUse) → IsUse memory settings root table → IsBeneathOne patches table
        → IsIn table (uses_in_patches memory settings patches)
    use-found table is one =
        let patch = one.patch in
        from-found memory settings patches patch table one.is_in
        ((all-uses_in memory settings root patch.table.level patch.table.frame patch.table.prefix patch.table.bits patch.from patch.count
        (are.each patch one.is_in).reached).all table
        (record { is_use = is; lower = one.beneath.lower; from = one.beneath.low; before = one.beneath.high }))

module _ (written : ℕ → Bool) (one other : Memory) (settings : Settings) (root : ℕ) (patches : List Patch) where
  -- each page is mapped as the walk after the write says
  pub pages-updated : (old new : ℕ → Option (Target Protection)) → AreAlikeBut written one other → ArePatches one written settings root patches
      → IsPatchedMap other settings patches old new
      → ((page : ℕ) → IsPage settings.la57 page → old page ≡ raw_target one settings root page)
      → (page : ℕ) → IsPage settings.la57 page → new page ≡ raw_target other settings root page
  pages-updated old new alike are map was page is = elim (is-patched patches page) [
    | inl patched ↦
        let here = patch-there written one other settings root patched.patch alike (are.each patched.patch patched.is_in) in
        map.inside patched.patch patched.is_in page is.aligned patched.low patched.high
        ∙ ap raw_target_of (sym (walk-reached (here.reached.reached page patched.low patched.high)))
    | inr none ↦
        map.outside page none
        ∙ (was page is
        ∙ raw_target-unwritten written one other settings root page alike
        (none-outside written one settings root patches are page is.below is.canonical none))
  ]

  pub canonical-updated : (old new : ℕ → Option (Target Protection)) → ArePatches one written settings root patches
      → IsPatchedMap other settings patches old new
      → ((x : ℕ) → (old x ≡ None → ⊥) → IsTrue (is_canonical settings.la57 x))
      → (x : ℕ) → (new x ≡ None → ⊥) → IsTrue (is_canonical settings.la57 x)
  canonical-updated old new are map was x some = elim (is-patched patches x) [
    | inl patched ↦ (are.each patched.patch patched.is_in).reached.canonical x patched.low patched.high
    | inr none ↦ was x (λ nothing. some (map.outside x none ∙ nothing))
  ]

  module _ (all left : List TableUse) (alike : AreAlikeBut written one other) (are : ArePatches one written settings root patches)
      (are_all : AreAll (IsUse one settings root) all) (are_left : AreUsesLeft patches all left) where
    there : ArePatches other written settings root patches
    there = patches-there written one other settings root patches alike are

    left-use : (table : TableUse) → IsIn table left → IsUse other settings root table
    left-use table is =
        let was = are_all.some.have table (are_left.were table is) in
        use-there written one other settings root table alike was
        (none-above-use written one settings root patches are table was (are_left.none table is))

    -- a use above which nothing written is read was one before
    use-left : (table : TableUse) → IsUse other settings root table
        → ReadsNoneAbove other written settings root table.prefix table.level
        → IsIn table (left ++ uses_in_patches other settings patches)
    use-left table is none =
        elim (are_left.others table (are_all.all table (use-there written other one settings root table (alike-back written one other alike) is none))) [
          | inl stays ↦ append-left left (uses_in_patches other settings patches) table stays
          | inr beneath ↦ absurd (above-use written other settings root patches there table none beneath)
        ]

    each-use : (table : TableUse) → IsUse other settings root table → IsIn table (left ++ uses_in_patches other settings patches)
    each-use table is =
        elim (patched-or-none written other settings root patches there table.prefix (serves-below settings table.level table.prefix is.serves) (serves-canonical settings table.level table.prefix is.serves)) [
          | inr none ↦ use-left table is (λ l t b more reached. none l t b reached)
          | inl patched ↦ elim (cases_lt table.level patched.patch.table.level) [
            | inl lower ↦
                append-right left (uses_in_patches other settings patches) table
                (use-found written other settings root patches there table is
                (record { patch = patched.patch; is_in = patched.is_in; beneath = record { lower = lower; low = patched.low; high = patched.high } }))
            | inr above ↦
                use-left table is
                (λ l t b more reached. (there.each patched.patch patched.is_in).none_above table.prefix patched.low patched.high l t b (omega arith) reached)
          ]
        ]

    -- the uses that are left and those that are found are all uses after the write
    pub uses-updated : AreAll (IsUse other settings root) (left ++ uses_in_patches other settings patches)
    uses-updated = record {
      some = record {
        have = λ table is. elim (in-append left (uses_in_patches other settings patches) table is) [
          | inl stays ↦ left-use table stays
          | inr found_there ↦ found-use written other settings root patches there table found_there
        ];
        distinct =
            distinct-append left (uses_in_patches other settings patches) are_left.distinct (found-distinct other settings patches are.ascending)
            (λ table stays found_there. are_left.none table stays (found-beneath_one other settings patches table found_there));
      };
      all = each-use;
    }
