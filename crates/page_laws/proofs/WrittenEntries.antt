-- Which entries of a table a write changes: those of the patches of the table, where none is above it.
use Rattle.std.proofs.Common.{◌≡◌, ℕ, zero, suc, ◌+◌, ◌-◌, ◌*◌, ◌/◌, ◌%◌, ◌<◌, ◌≤◌, inl, inr, Bool, true, false, Option, List, refl, sym, ap, ◌∙◌, subst, arith}
use Rattle.std.specs.Prelude.{option_map}
use Rattle.std.proofs.lemmas.Bool.{cases_lt}
use Rattle.paging_model.specs.Counting.{IsIn}
use Rattle.paging_model.specs.Memory.{Memory}
use Rattle.paging_model.specs.LinearAddress.{span}
use Rattle.paging_model.specs.Entries.{entry_of}
use Rattle.paging_model.specs.TableUses.{IsUse}
use Rattle.paging_model.specs.Walking.{entry_address, top_level}
use Rattle.paging_model.specs.declared.registers.Settings.{Settings}
use Rattle.paging_model.specs.declared.spaces.TableUse.{TableUse}
use Rattle.paging_laws.specs.ReachedSlots.{AreReached}
use Rattle.paging_laws.specs.SpaceParts.{slot_prefix, slot_read}
use Rattle.paging_laws.proofs.ReachedUses.{use-reached}
use Rattle.paging_laws.proofs.Serving.{Reaches-some}
use Rattle.paging_laws.proofs.SlotRanges.{span_least, slot_of, slot_ends, slot_starts}
use Rattle.kept_laws.specs.PageNumbers.{pages_of_entry, pages_in, page_number, pages_in_patch}
use Rattle.kept_laws.specs.Patches.{low_of, high_of, ArePatches, IsBeneath, IsBeneathOne}
use Rattle.kept_laws.specs.WrittenPlaces.{AreAlikeBut}
use Rattle.kept_laws.specs.declared.patches.Patch.{Patch}
use Rattle.kept_laws.proofs.Unwritten.{none-or-first}
use Rattle.page_laws.specs.PatchEntries.{HaveOwnTables}
use Rattle.page_laws.proofs.PageCounts.{pages_in-append}
use Rattle.page_laws.proofs.PatchRanges.{first_in, some_level, low_in, high_in, patch-has, patch-use}
use Rattle.page_laws.proofs.Ranges.{same_span-above, table_range, same_table_range, number_among}

never_both : (b : Bool) → b ≡ true → b ≡ false → ⊥
never_both b is is_not = let both : true ≡ false = sym is ∙ is_not in cc

-- an address of a patch of no lower level
record IsPatchedAbove (patches : List Patch) (least x : ℕ) : Type 0 where
  patch : Patch
  is_in : IsIn patch patches
  low : low_of patch ≤ x
  high : x < high_of patch
  level : least ≤ patch.table.level

-- the entries of a table that aren't written map as many pages in both memories
module _ (written : ℕ → Bool) (one other : Memory) (settings : Settings) (level table : ℕ) (alike : AreAlikeBut written one other) where
  same_entry : (i : ℕ) → (written (table + 8 * i) ≡ true → ⊥) → (test : Bool) → written (table + 8 * i) ≡ test
      → pages_of_entry (slot_read other settings level table i) ≡ pages_of_entry (slot_read one settings level table i)
  same_entry i never true is = absurd (never is)
  same_entry i never false is =
      ap (λ (value : Option ℕ). pages_of_entry (option_map (λ number. entry_of level settings number) value)) (sym (alike (table + 8 * i) is))

  same_entries : (from count : ℕ) → ((i : ℕ) → from ≤ i → i < from + count → written (table + 8 * i) ≡ true → ⊥)
      → pages_in other settings level table from count ≡ pages_in one settings level table from count
  unfolding pages_in
  same_entries from zero never = refl
  same_entries from (suc n) never =
      let before = same_entries from n (λ i least less. never i least (omega arith)) in
      let here = same_entry (from + n) (never (from + n) (omega arith) (omega arith)) (written (table + 8 * (from + n))) refl in
      omega arith

-- the entries before some, those, and the ones after them
in_parts : (memory : Memory) (settings : Settings) (level table from count : ℕ) → from + count ≤ 512
    → pages_in memory settings level table 0 512
    ≡ pages_in memory settings level table 0 from + pages_in memory settings level table from count
    + pages_in memory settings level table (from + count) (512 - (from + count))
in_parts memory settings level table from count slots =
    let all : from + count + (512 - (from + count)) ≡ 512 = omega arith in
    let start : 0 + from ≡ from = omega arith in
    let start' : 0 + (from + count) ≡ from + count = omega arith in
    let first = pages_in-append memory settings level table 0 from count in
    let second = pages_in-append memory settings level table 0 (from + count) (512 - (from + count)) in
    let whole = ap (pages_in memory settings level table 0) all in
    let at = ap (λ (n : ℕ). pages_in memory settings level table n count) start in
    let at' = ap (λ (n : ℕ). pages_in memory settings level table n (512 - (from + count))) start' in
    omega arith

module _ (written : ℕ → Bool) (memory : Memory) (settings : Settings) (root : ℕ) (patches : List Patch)
    (are : ArePatches memory written settings root patches) where
  module _ (table : TableUse) (is_use : IsUse memory settings root table) (lower : table.level < top_level settings) where
    reached : AreReached memory settings root table.level table.frame table.prefix table.bits 0 512
    reached = use-reached memory settings root table 0 512 is_use lower (omega arith)

    slot_low : (i : ℕ) → slot_prefix table.level table.prefix 0 ≤ slot_prefix table.level table.prefix i
    slot_low i = slot_starts (span table.level) table.prefix 0 i (omega arith)

    slot_high : (i : ℕ) → i < 512 → slot_prefix table.level table.prefix i < slot_prefix table.level table.prefix (0 + 512)
    slot_high i less =
        let least = span_least table.level in
        let far = slot_ends (span table.level) table.prefix i 512 less in
        omega arith

    -- the first address of entry i reads the entry
    slot_place : (i : ℕ) → i < 512 → entry_address table.level (slot_prefix table.level table.prefix i) table.frame ≡ table.frame + 8 * i
    slot_place i less =
        let least = span_least table.level in
        ap (λ (n : ℕ). table.frame + 8 * n)
        (slot_of (span table.level) table.prefix i (slot_prefix table.level table.prefix i) reached.whole less (omega arith) (omega arith))

    -- and lies in a patch of this level or of one above, where the entry is written
    entry-patched : (i : ℕ) → i < 512 → written (table.frame + 8 * i) ≡ true → IsPatchedAbove patches table.level (slot_prefix table.level table.prefix i)
    entry-patched i less is =
        let low = slot_low i in
        let high = slot_high i less in
        let came = reached.reached (slot_prefix table.level table.prefix i) low high in
        let here : written (entry_address table.level (slot_prefix table.level table.prefix i) table.frame) ≡ true =
        subst (λ (n : ℕ). written n ≡ true) (sym (slot_place i less)) is in
        elim (none-or-first written memory settings root (slot_prefix table.level table.prefix i)) [
          | inl none ↦ absurd (never_both _ here (none table.level table.frame table.bits came))
          | inr reads ↦
              let at = are.all (slot_prefix table.level table.prefix i) (omega (arith, reached.ends)) (reached.canonical _ low high) reads in
              elim (cases_lt at.patch.table.level table.level) [
                | inl beneath ↦
                    absurd (never_both _ here ((are.each at.patch at.is_in).none_above (slot_prefix table.level table.prefix i) at.low at.high
                    table.level table.frame table.bits beneath came))
                | inr level ↦ record { patch = at.patch; is_in = at.is_in; low = at.low; high = at.high; level = level }
              ]
        ]

    -- the range of entry i lies in the table's
    slot_range : (i : ℕ) → i < 512 → slot_prefix table.level table.prefix i / span (table.level + 1) ≡ table.prefix / span (table.level + 1)
    slot_range i less =
        let low = slot_low i in
        let high = slot_high i less in
        table_range table.level table.prefix (slot_prefix table.level table.prefix i) (Reaches-some (reached.reached _ low high)) reached.whole
        (omega arith) (omega arith)

    -- a patch of a level above has the whole range of the table, or nothing of it
    above-has : (i : ℕ) → i < 512 → (patch : Patch) → IsIn patch patches → table.level < patch.table.level
        → low_of patch ≤ slot_prefix table.level table.prefix i → slot_prefix table.level table.prefix i < high_of patch → IsBeneath patch table
    above-has i less patch is above low high =
        let both = patch-has written memory settings root patch (are.each patch is) (slot_prefix table.level table.prefix i) table.prefix
        (same_span-above table.level patch.table.level (slot_prefix table.level table.prefix i) table.prefix above (slot_range i less)) low high in
        record { lower = above; low = both.0; high = both.1 }

    -- a patch of the level that has an address of the table is one of the table
    level-same : (i : ℕ) → i < 512 → (patch : Patch) → IsIn patch patches → patch.table.level ≡ table.level
        → low_of patch ≤ slot_prefix table.level table.prefix i → slot_prefix table.level table.prefix i < high_of patch
        → patch.table.prefix ≡ table.prefix
    level-same i less patch is level low high =
        let is_patch = are.each patch is in
        let whole : table.prefix % (512 * span patch.table.level) ≡ 0 = subst (λ (n : ℕ). table.prefix % (512 * span n) ≡ 0) (sym level) reached.whole in
        let up = slot_low i in
        let down = slot_high i less in
        let before : slot_prefix table.level table.prefix i < table.prefix + 512 * span table.level = omega arith in
        same_table_range (span patch.table.level) patch.table.prefix table.prefix (slot_prefix table.level table.prefix i) is_patch.reached.whole whole
        (low_in written memory settings root patch is_patch (slot_prefix table.level table.prefix i) low)
        (high_in written memory settings root patch is_patch (slot_prefix table.level table.prefix i) high)
        (omega arith)
        (subst (λ (n : ℕ). slot_prefix table.level table.prefix i < table.prefix + 512 * span n) (sym level) before)

  -- no patch is above the table of another one
  pub patch-not_beneath : (patch : Patch) → IsIn patch patches → patch.table.level < top_level settings → IsBeneathOne patches patch.table → ⊥
  patch-not_beneath patch is lower at =
      let is_patch = are.each patch is in
      let first = first_in written memory settings root patch is_patch in
      let upper = are.each at.patch at.is_in in
      let range = table_range patch.table.level patch.table.prefix (low_of patch) (some_level written memory settings root patch is_patch) is_patch.reached.whole
      (low_in written memory settings root patch is_patch (low_of patch) (omega arith))
      (high_in written memory settings root patch is_patch (low_of patch) first) in
      let both = patch-has written memory settings root at.patch upper patch.table.prefix (low_of patch)
      (sym (same_span-above patch.table.level at.patch.table.level (low_of patch) patch.table.prefix at.beneath.lower range)) at.beneath.low at.beneath.high in
      never_both _ (upper.is_written (low_of patch) both.0 both.1)
      (is_patch.none_above (low_of patch) (omega arith) first at.patch.table.level at.patch.table.frame at.patch.table.bits at.beneath.lower
      (upper.reached.reached (low_of patch) both.0 both.1))

module _ (written : ℕ → Bool) (one other : Memory) (settings : Settings) (root : ℕ) (patches : List Patch) where
  -- the entries of a table map as many pages as before, where no patch is one of the table and none is above it
  pub number-same : (table : TableUse) → AreAlikeBut written one other → ArePatches one written settings root patches
      → IsUse one settings root table → (IsBeneathOne patches table → ⊥)
      → ((patch : Patch) → IsIn patch patches → patch.table.level ≡ table.level → patch.table.prefix ≡ table.prefix → ⊥)
      → table.level < top_level settings → page_number other settings table ≡ page_number one settings table
  number-same table alike are is_use free none lower =
      same_entries written one other settings table.level table.frame alike 0 512
      (λ i least less is.
      let at = entry-patched written one settings root patches are table is_use lower i less is in
      elim (cases_lt table.level at.patch.table.level) [
        | inl above ↦
            free (record {
              patch = at.patch;
              is_in = at.is_in;
              beneath = above-has written one settings root patches are table is_use lower i less at.patch at.is_in above at.low at.high;
            })
        | inr most ↦
            let level : at.patch.table.level ≡ table.level = omega (arith, at.level) in
            none at.patch at.is_in level
            (level-same written one settings root patches are table is_use lower i less at.patch at.is_in level at.low at.high)
      ])

  -- the entries of a patch's table that are written are the patch's
  written-in : ArePatches one written settings root patches → HaveOwnTables settings patches → (patch : Patch) → IsIn patch patches
      → patch.table.level < top_level settings → (i : ℕ) → i < 512 → written (patch.table.frame + 8 * i) ≡ true
      → (patch.from ≤ i) × (i < patch.from + patch.count)
  written-in are own patch is lower i less is_written =
      let is_use = patch-use written one settings root patch (are.each patch is) lower in
      let at = entry-patched written one settings root patches are patch.table is_use lower i less is_written in
      let least = span_least patch.table.level in
      elim (cases_lt patch.table.level at.patch.table.level) [
        | inl above ↦
            absurd (patch-not_beneath written one settings root patches are patch is lower
            (record {
              patch = at.patch;
              is_in = at.is_in;
              beneath = above-has written one settings root patches are patch.table is_use lower i less at.patch at.is_in above at.low at.high;
            }))
        | inr most ↦
            let level : at.patch.table.level ≡ patch.table.level = omega (arith, at.level) in
            let prefix = level-same written one settings root patches are patch.table is_use lower i less at.patch at.is_in level at.low at.high in
            let same : at.patch ≡ patch = sym (own patch at.patch is at.is_in lower (sym level) (sym prefix)) in
            number_among (span patch.table.level) patch.table.prefix patch.from (patch.from + patch.count) i (omega arith)
            (subst (λ (it : Patch). low_of it ≤ slot_prefix patch.table.level patch.table.prefix i) same at.low)
            (subst (λ (it : Patch). slot_prefix patch.table.level patch.table.prefix i < high_of it) same at.high)
      ]

  -- the entries of a table that don't belong to its patch map as many pages as before
  pub number-patched : (patch : Patch) → AreAlikeBut written one other → ArePatches one written settings root patches
      → HaveOwnTables settings patches → IsIn patch patches → patch.table.level < top_level settings
      → page_number other settings patch.table + pages_in_patch one settings patch
      ≡ page_number one settings patch.table + pages_in_patch other settings patch
  number-patched patch alike are own is lower =
      let slots : patch.from + patch.count ≤ 512 = (are.each patch is).reached.slots in
      let before = same_entries written one other settings patch.table.level patch.table.frame alike 0 patch.from
      (λ i least less is_written. let inside = written-in are own patch is lower i (omega arith) is_written in omega arith) in
      let after = same_entries written one other settings patch.table.level patch.table.frame alike (patch.from + patch.count) (512 - (patch.from + patch.count))
      (λ i least less is_written. let inside = written-in are own patch is lower i (omega arith) is_written in omega arith) in
      let whole_one = in_parts one settings patch.table.level patch.table.frame patch.from patch.count slots in
      let whole_other = in_parts other settings patch.table.level patch.table.frame patch.from patch.count slots in
      omega arith
