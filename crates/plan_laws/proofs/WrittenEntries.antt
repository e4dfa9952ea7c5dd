-- The entries of a plan's patches are entries that the write changes, each once.
use Rattle.std.proofs.Common.{◌≡◌, ℕ, zero, suc, ◌+◌, ◌-◌, ◌*◌, ◌%◌, ◌<◌, ◌≤◌, inl, inr, List, [], ◌∷◌, ◌++◌, length, refl, sym, ap, ◌∙◌, subst, arith, length-append}
use Rattle.std.specs.Prelude.{min, max}
use Rattle.paging_model.specs.Counting.{IsIn, AreDistinct, AreAll, AtLeast}
use Rattle.paging_model.specs.Memory.{Memory}
use Rattle.paging_model.specs.TableUses.{IsUse}
use Rattle.paging_model.specs.declared.registers.Settings.{Settings}
use Rattle.paging_model.specs.declared.spaces.SpaceKey.{SpaceKey}
use Rattle.paging_model.specs.declared.spaces.TableUse.{TableUse}
use Rattle.paging_laws.specs.SpaceParts.{upper_prefix}
use Rattle.paging_laws.proofs.Membership.{in-append, distinct-append}
use Rattle.history_model.specs.KeptSpaces.{IsWrittenEntry}
use Rattle.kept_laws.specs.Patches.{entries_of}
use Rattle.kept_laws.specs.WrittenPlaces.{meets_slots, AreAlikeBut}
use Rattle.kept_laws.specs.declared.patches.Patch.{Patch}
use Rattle.kept_laws.proofs.Unwritten.{use-there}
use Rattle.plan_laws.specs.Plans.{patch_at, IsPartOf, lower_part, lower_half, upper_half, IsCovered, ArePlanned}
use Rattle.plan_laws.proofs.PlanPatches.{min-is, max-is, none-above}

-- the slots of a part are among those of the write
record AreAmong (first last from count : ℕ) : Type 0 where
  least : first ≤ from
  most : from + count ≤ last + 1

among : (settings : Settings) (first last : ℕ) (table : TableUse) (patch : Patch) → first ≤ last → IsPartOf settings first last table patch
    → AreAmong first last patch.from patch.count
among settings first last table patch order (lower_part lower is) =
    subst (λ (it : Patch). AreAmong first last it.from it.count) (sym is) (record { least = omega arith; most = omega arith })
among settings first last table patch order (lower_half top few is) =
    let part = min-is last 255 in
    subst (λ (it : Patch). AreAmong first last it.from it.count) (sym is) (record { least = omega arith; most = omega (arith, part.0) })
among settings first last table patch order (upper_half top many is) =
    let part = max-is first 256 in
    let within : max first 256 ≤ last = elim part.2 [ inl whole ↦ omega arith | inr half ↦ omega arith ] in
    subst (λ (it : Patch). AreAmong first last it.from it.count) (sym is) (record { least = part.0; most = omega arith })

-- a slot of one of the halves is none of the other
halves-apart : (first last n : ℕ) → first ≤ n → n < first + (min last 255 + 1 - first) → max first 256 ≤ n → ⊥
halves-apart first last n from to from' =
    let low = min-is last 255 in
    let high = max-is first 256 in
    omega (arith, low.1, high.1)

abbrev has : Patch → ℕ → Type 0
has patch n = (patch.from ≤ n) × (n < patch.from + patch.count)

-- two parts of one use that have a slot in common are one
same-slot : (settings : Settings) (first last n : ℕ) (table other : TableUse) (one two : Patch) → table ≡ other
    → IsPartOf settings first last table one → IsPartOf settings first last other two → has one n → has two n → one ≡ two
same-slot settings first last n table other one two same (lower_part lower is) (lower_part lower' is') mine yours =
    is ∙ (ap (λ (it : TableUse). patch_at it it.prefix first last) same ∙ sym is')
same-slot settings first last n table other one two same (lower_part lower is) (lower_half top few is') mine yours =
    absurd (omega (arith, lower, top, ap (λ (it : TableUse). it.level) same))
same-slot settings first last n table other one two same (lower_part lower is) (upper_half top many is') mine yours =
    absurd (omega (arith, lower, top, ap (λ (it : TableUse). it.level) same))
same-slot settings first last n table other one two same (lower_half top few is) (lower_part lower is') mine yours =
    absurd (omega (arith, lower, top, ap (λ (it : TableUse). it.level) same))
same-slot settings first last n table other one two same (upper_half top many is) (lower_part lower is') mine yours =
    absurd (omega (arith, lower, top, ap (λ (it : TableUse). it.level) same))
same-slot settings first last n table other one two same (lower_half top few is) (lower_half top' few' is') mine yours =
    is ∙ (ap (λ (it : TableUse). patch_at it 0 first (min last 255)) same ∙ sym is')
same-slot settings first last n table other one two same (upper_half top many is) (upper_half top' many' is') mine yours =
    is ∙ (ap (λ (it : TableUse). patch_at it (upper_prefix settings) (max first 256) last) same ∙ sym is')
same-slot settings first last n table other one two same (lower_half top few is) (upper_half top' many is') mine yours =
    let low : has (patch_at table 0 first (min last 255)) n = subst (λ (it : Patch). has it n) is mine in
    let high : has (patch_at other (upper_prefix settings) (max first 256) last) n = subst (λ (it : Patch). has it n) is' yours in
    absurd (halves-apart first last n low.0 low.1 high.0)
same-slot settings first last n table other one two same (upper_half top many is) (lower_half top' few is') mine yours =
    let low : has (patch_at other 0 first (min last 255)) n = subst (λ (it : Patch). has it n) is' yours in
    let high : has (patch_at table (upper_prefix settings) (max first 256) last) n = subst (λ (it : Patch). has it n) is mine in
    absurd (halves-apart first last n low.0 low.1 high.0)

module _ (frame : ℕ) where
  -- a use with each of so many slots of the frame
  abbrev entries_from : TableUse → ℕ → ℕ → List (TableUse × ℕ)
  entries_from table from zero = []
  entries_from table from (suc n) = (table, frame + 8 * (from + n)) ∷ entries_from table from n

  entries-many : (table : TableUse) (from n : ℕ) → length (entries_from table from n) ≡ n
  entries-many table from zero = refl
  entries-many table from (suc n) = let rest = entries-many table from n in omega arith

  -- one of them
  record IsEntry (table : TableUse) (from n : ℕ) (entry : TableUse × ℕ) : Type 0 where
    number : ℕ
    least : from ≤ number
    less : number < from + n
    table_is : entry.0 ≡ table
    slot_is : entry.1 ≡ frame + 8 * number

  in-entries : (table : TableUse) (from n : ℕ) (entry : TableUse × ℕ) → IsIn entry (entries_from table from n) → IsEntry table from n entry
  in-entries table from zero entry is = absurd is
  in-entries table from (suc n) entry (inl same) = record {
    number = from + n;
    least = omega arith;
    less = omega arith;
    table_is = ap (λ (it : TableUse × ℕ). it.0) same;
    slot_is = ap (λ (it : TableUse × ℕ). it.1) same;
  }
  in-entries table from (suc n) entry (inr is) =
      let it = in-entries table from n entry is in
      record { number = it.number; least = it.least; less = omega (arith, it.less); table_is = it.table_is; slot_is = it.slot_is }

  entries-distinct : (table : TableUse) (from n : ℕ) → AreDistinct (entries_from table from n)
  entries-distinct table from zero = tt
  entries-distinct table from (suc n) = (
    λ is. let it = in-entries table from n (table, frame + 8 * (from + n)) is in omega (arith, it.less, it.slot_is),
    entries-distinct table from n,
  )

module _ (settings : Settings) (frame first last : ℕ) (tables : List TableUse) where
  -- a use of the frame that isn't covered, of which a patch is a part
  record IsPartOfOne (patch : Patch) : Type 0 where
    table : TableUse
    is_in : IsIn table tables
    is_frame : table.frame ≡ frame
    free : IsCovered settings first last frame tables table → ⊥
    part : IsPartOf settings first last table patch

  -- an entry of a patch, as its use has it
  record IsOfPatches (patches : List Patch) (entry : TableUse × ℕ) : Type 0 where
    patch : Patch
    is_in : IsIn patch patches
    one : IsPartOfOne patch
    entry_is : IsEntry frame one.table patch.from patch.count entry

  -- the entries of patches, each once
  record Entries (patches : List Patch) : Type 0 where
    entries : List (TableUse × ℕ)
    are : (entry : TableUse × ℕ) → IsIn entry entries → IsOfPatches patches entry
    distinct : AreDistinct entries
    many : length entries ≡ entries_of patches

  same-patch : (one other : Patch) (mine : IsPartOfOne one) (yours : IsPartOfOne other) (entry : TableUse × ℕ)
      → IsEntry frame mine.table one.from one.count entry → IsEntry frame yours.table other.from other.count entry → one ≡ other
  same-patch one other mine yours entry here there =
      same-slot settings first last here.number mine.table yours.table one other (sym here.table_is ∙ there.table_is) mine.part yours.part
      (here.least, here.less) (omega (arith, here.slot_is, there.slot_is, there.least), omega (arith, here.slot_is, there.slot_is, there.less))

  all-entries : (patches : List Patch) → ((patch : Patch) → IsIn patch patches → IsPartOfOne patch) → AreDistinct patches → Entries patches
  all-entries [] each distinct = record { entries = []; are = λ entry is. absurd is; distinct = tt; many = refl }
  all-entries (one ∷ rest) each distinct =
      let mine = each one (inl refl) in
      let own = entries_from frame mine.table one.from one.count in
      let others = all-entries rest (λ patch is. each patch (inr is)) distinct.1 in
      record {
        entries = own ++ others.entries;
        are = λ entry is. elim (in-append own others.entries entry is) [
          | inl here ↦ record { patch = one; is_in = inl refl; one = mine; entry_is = in-entries frame mine.table one.from one.count entry here }
          | inr there ↦
              let it = others.are entry there in
              record { patch = it.patch; is_in = inr it.is_in; one = it.one; entry_is = it.entry_is }
        ];
        distinct =
            distinct-append own others.entries (entries-distinct frame mine.table one.from one.count) others.distinct
            (λ entry here there.
            let it = others.are entry there in
            let same : one ≡ it.patch = same-patch one it.patch mine it.one entry (in-entries frame mine.table one.from one.count entry here) it.entry_is in
            distinct.0 (subst (λ (patch : Patch). IsIn patch rest) (sym same) it.is_in));
        many = omega (arith, length-append own others.entries, entries-many frame mine.table one.from one.count, others.many);
      }

module _ (one other : Memory) (key : SpaceKey) (frame first last : ℕ) (tables : List TableUse) (order : first ≤ last) (short : last < 512)
    (whole : frame % 4096 ≡ 0) (root_whole : key.root % 4096 ≡ 0) (alike : AreAlikeBut (meets_slots frame first last) one other)
    (all : AreAll (IsUse one key.settings key.root) tables) where
  -- the entry of such a use is one that the write changes
  is-written : (patch : Patch) (entry : TableUse × ℕ) (part : IsPartOfOne key.settings frame first last tables patch)
      → IsEntry frame part.table patch.from patch.count entry
      → IsWrittenEntry other key (frame + 8 * first) (8 * (last + 1 - first)) entry
  is-written patch entry part is =
      let is_use = all.some.have part.table part.is_in in
      let none = none-above one key.settings key.root frame first last order short tables all part.table root_whole whole is_use part.free in
      let slots = among key.settings first last part.table patch order part.part in
      record {
        use_is = subst (λ (it : TableUse). IsUse other key.settings key.root it) (sym is.table_is)
            (use-there (meets_slots frame first last) one other key.settings key.root part.table alike is_use none);
        frame = ap (λ (it : TableUse). it.frame) is.table_is ∙ (part.is_frame ∙ (omega arith));
        slot = record {
          aligned = omega (arith, is.slot_is);
          begins = omega (arith, is.slot_is, is.less, slots.most);
          ends = omega (arith, is.slot_is, is.least, slots.least);
        };
      }

-- so at least so many entries are written as the patches have
pub entries-are_written : (one other : Memory) (key : SpaceKey) (patches : List Patch) (frame first last : ℕ) (tables : List TableUse)
    → first ≤ last → last < 512 → frame % 4096 ≡ 0 → key.root % 4096 ≡ 0 → AreAlikeBut (meets_slots frame first last) one other
    → AreAll (IsUse one key.settings key.root) tables → ArePlanned key.settings first last frame tables patches
    → AtLeast (entries_of patches) (IsWrittenEntry other key (frame + 8 * first) (8 * (last + 1 - first)))
entries-are_written one other key patches frame first last tables order short whole root_whole alike all plan =
    let found = all-entries key.settings frame first last tables patches
    (λ patch is. let it = plan.each patch is in record { table = it.0; is_in = it.1; is_frame = it.2; free = it.3; part = it.4 })
    plan.distinct in
    record {
      things = found.entries;
      some = record {
        have = λ entry is.
            let it = found.are entry is in
            is-written one other key frame first last tables order short whole root_whole alike all it.patch entry it.one it.entry_is;
        distinct = found.distinct;
      };
      many = omega (arith, found.many);
    }
