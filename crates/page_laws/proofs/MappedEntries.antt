-- What a map of pages, and the uses of tables, say of the entries of a patch.
use Rattle.std.proofs.Common.{◌≡◌, ℕ, zero, suc, ◌+◌, ◌-◌, ◌*◌, ◌/◌, ◌%◌, ◌^◌, ◌<◌, ◌≤◌, inr, Bool, Option, Some, None, List, refl, sym, ap, ◌∙◌, subst, arith}
use Rattle.std.specs.Prelude.{option_map}
use Rattle.std.proofs.lemmas.Nat.{div-add-mod', pow-add}
use Rattle.std.proofs.Math.Nat.{mul-mod_left}
use Rattle.paging_model.specs.Counting.{IsIn, AreAll}
use Rattle.paging_model.specs.Memory.{Memory, entry_at}
use Rattle.paging_model.specs.LinearAddress.{span, IsPage}
use Rattle.paging_model.specs.Entries.{entry_of, joined_bits}
use Rattle.paging_model.specs.TableUses.{Reaches, IsPrefix, IsUse}
use Rattle.paging_model.specs.Translations.{Target, Protection, raw_target_of}
use Rattle.paging_model.specs.Walking.{walk_from, at_value, at_entry, entry_address, entry_read}
use Rattle.paging_model.specs.declared.registers.Settings.{Settings}
use Rattle.paging_model.specs.declared.entries.Bits.{Bits}
use Rattle.paging_model.specs.declared.entries.Entry.{Entry}
use Rattle.paging_model.specs.declared.entries.Entry.TheVariants as entry
use Rattle.paging_model.specs.declared.spaces.TableUse.{TableUse}
use Rattle.paging_model.specs.declared.walks.Walk.{Walk}
use Rattle.paging_model.proofs.WalkSteps.{walk_from-step}
use Rattle.paging_laws.specs.ReachedSlots.{AreReached}
use Rattle.paging_laws.specs.SpaceParts.{slot_prefix, slot_read}
use Rattle.paging_laws.proofs.Reaching.{Reaches-level}
use Rattle.paging_laws.proofs.Readings.{walk-reached}
use Rattle.paging_laws.proofs.SlotRanges.{span_least}
use Rattle.paging_laws.proofs.ReachedTables.{slot-is_prefix, slot-reached, slot-read, below-reached, below-some, read_above}
use Rattle.kept_laws.specs.PageNumbers.{pages_of_entry}
use Rattle.kept_laws.specs.Patches.{IsPatch}
use Rattle.kept_laws.specs.declared.patches.Patch.{Patch}
use Rattle.page_laws.specs.PatchEntries.{IsBelowEntry, IsMapOf}
use Rattle.page_laws.proofs.PatchRanges.{some_level}

regroup : (a b : ℕ) → a * (b * 4096) ≡ a * b * 4096
regroup a b = grind arith

-- the range of an entry is made of whole pages
page_whole : (level x : ℕ) → x % span level ≡ 0 → x % 4096 ≡ 0
page_whole level x whole =
    let split : span level ≡ 2 ^ (9 * (level - 1)) * 4096 =
    ap (λ (n : ℕ). 2 ^ n) (let n : 12 + 9 * (level - 1) ≡ 9 * (level - 1) + 12 = omega arith in n) ∙ pow-add 2 (9 * (level - 1)) 12 in
    let is : x ≡ x / span level * span level = omega (arith, div-add-mod' x (span level)) in
    let e : x ≡ x / span level * 2 ^ (9 * (level - 1)) * 4096 =
    is ∙ (ap (λ (n : ℕ). x / span level * n) split ∙ regroup (x / span level) (2 ^ (9 * (level - 1)))) in
    subst (λ (n : ℕ). n % 4096 ≡ 0) (sym e) (mul-mod_left (x / span level * 2 ^ (9 * (level - 1))) 4096)

-- an entry by which a walk maps nothing maps no page
none_at_entry : (go : ℕ → Bits → Walk) (level x : ℕ) (above : Bits) (meaning : Entry)
    → raw_target_of (at_entry go level x above meaning) ≡ None → pages_of_entry (Some meaning) ≡ 0
none_at_entry go level x above entry.Absent none = refl
none_at_entry go level x above entry.Reserved none = refl
none_at_entry go level x above (entry.Table frame bits) none = refl
none_at_entry go level x above (entry.Leaf frame bits key global) none = absurd cc

none_at_value : (go : ℕ → Bits → Walk) (settings : Settings) (level x : ℕ) (above : Bits) (value : Option ℕ)
    → raw_target_of (at_value go settings level x above value) ≡ None
    → pages_of_entry (option_map (λ number. entry_of level settings number) value) ≡ 0
none_at_value go settings level x above None none = refl
none_at_value go settings level x above (Some number) none = none_at_entry go level x above (entry_of level settings number) none

-- one by which it maps something maps a page, or references a table
some_at_entry : (go : ℕ → Bits → Walk) (level x : ℕ) (above : Bits) (to : Target Protection) (meaning : Entry)
    → raw_target_of (at_entry go level x above meaning) ≡ Some to
    → ((frame : ℕ) (bits : Bits) → Some meaning ≡ Some (entry.Table frame bits) → ⊥) → pages_of_entry (Some meaning) ≡ 1
some_at_entry go level x above to entry.Absent some never = absurd cc
some_at_entry go level x above to entry.Reserved some never = absurd cc
some_at_entry go level x above to (entry.Table frame bits) some never = absurd (never frame bits refl)
some_at_entry go level x above to (entry.Leaf frame bits key global) some never = refl

some_at_value : (go : ℕ → Bits → Walk) (settings : Settings) (level x : ℕ) (above : Bits) (to : Target Protection) (value : Option ℕ)
    → raw_target_of (at_value go settings level x above value) ≡ Some to
    → ((frame : ℕ) (bits : Bits) → option_map (λ number. entry_of level settings number) value ≡ Some (entry.Table frame bits) → ⊥)
    → pages_of_entry (option_map (λ number. entry_of level settings number) value) ≡ 1
some_at_value go settings level x above to None some never = absurd cc
some_at_value go settings level x above to (Some number) some never =
    some_at_entry go level x above to (entry_of level settings number) some never

module _ (memory : Memory) (settings : Settings) (root : ℕ) where
  -- entry i is one of some entries whose addresses' walks come to them
  module _ (lower table prefix : ℕ) (above : Bits) (from count : ℕ) (all : AreReached memory settings root (suc lower) table prefix above from count)
      (i : ℕ) (least : from ≤ i) (less : i < from + count) where
    first_is_page : IsPage settings.la57 (slot_prefix (suc lower) prefix i)
    first_is_page =
        let is = slot-is_prefix lower table prefix above from count all i least less in
        record { below = is.below; aligned = page_whole (suc lower) (slot_prefix (suc lower) prefix i) is.whole; canonical = is.canonical }

    map-at : (target : ℕ → Option (Target Protection)) → IsMapOf memory settings root target
        → target (slot_prefix (suc lower) prefix i)
        ≡ raw_target_of (at_value (λ frame bits. walk_from memory settings (suc lower - 1) (slot_prefix (suc lower) prefix i) frame bits)
        settings (suc lower) (slot_prefix (suc lower) prefix i) above (entry_at memory (entry_address (suc lower) (slot_prefix (suc lower) prefix i) table)))
    map-at target map =
        map (slot_prefix (suc lower) prefix i) first_is_page
        ∙ ap raw_target_of (walk-reached (slot-reached lower table prefix above from count all i least less)
        ∙ walk_from-step memory settings (slot_prefix (suc lower) prefix i) (suc lower) table above (omega arith))

    -- what is read for its first address is the entry
    at-slot : (n : ℕ) → pages_of_entry (entry_read memory settings (suc lower) (slot_prefix (suc lower) prefix i) table) ≡ n
        → pages_of_entry (slot_read memory settings (suc lower) table i) ≡ n
    at-slot n is = subst (λ (read : Option Entry). pages_of_entry read ≡ n) (slot-read lower table prefix above from count all i least less) is

    unmapped : (target : ℕ → Option (Target Protection)) → IsMapOf memory settings root target
        → target (slot_prefix (suc lower) prefix i) ≡ None → pages_of_entry (slot_read memory settings (suc lower) table i) ≡ 0
    unmapped target map none =
        at-slot 0
        (none_at_value (λ frame bits. walk_from memory settings (suc lower - 1) (slot_prefix (suc lower) prefix i) frame bits)
        settings (suc lower) (slot_prefix (suc lower) prefix i) above
        (entry_at memory (entry_address (suc lower) (slot_prefix (suc lower) prefix i) table)) (sym (map-at target map) ∙ none))

    -- the table that it references is used
    below-used : (frame : ℕ) (bits : Bits) → slot_read memory settings (suc lower) table i ≡ Some (entry.Table frame bits)
        → IsUse memory settings root (record { level = lower; prefix = slot_prefix (suc lower) prefix i; frame = frame; bits = joined_bits above bits })
    below-used frame bits read =
        let some = span_least (suc lower) in
        let next : suc lower ≡ lower + 1 = omega arith in
        let most = Reaches-level (slot-reached lower table prefix above from count all i least less) in
        record {
          serves = inr (
            below-some lower table prefix above from count all i least less frame bits read,
            omega arith,
            subst (λ (n : ℕ). IsPrefix settings n (slot_prefix (suc lower) prefix i)) next (slot-is_prefix lower table prefix above from count all i least less),
          );
          reached =
              below-reached lower table prefix above from count all i least less frame bits read (slot_prefix (suc lower) prefix i) (omega arith) (omega arith);
        }

    page : (target : ℕ → Option (Target Protection)) (tables : List TableUse) (to : Target Protection) → IsMapOf memory settings root target
        → AreAll (IsUse memory settings root) tables → target (slot_prefix (suc lower) prefix i) ≡ Some to
        → ((one : TableUse) → IsIn one tables → one.level + 1 ≡ suc lower → one.prefix ≡ slot_prefix (suc lower) prefix i → ⊥)
        → pages_of_entry (slot_read memory settings (suc lower) table i) ≡ 1
    page target tables to map uses some never =
        at-slot 1
        (some_at_value (λ frame bits. walk_from memory settings (suc lower - 1) (slot_prefix (suc lower) prefix i) frame bits)
        settings (suc lower) (slot_prefix (suc lower) prefix i) above to
        (entry_at memory (entry_address (suc lower) (slot_prefix (suc lower) prefix i) table)) (sym (map-at target map) ∙ some)
        (λ frame bits read.
        let used = below-used frame bits (sym (slot-read lower table prefix above from count all i least less) ∙ read) in
        never _ (uses.all _ used) (omega arith) refl))

    references : (one : TableUse) → IsUse memory settings root one → one.level + 1 ≡ suc lower → one.prefix ≡ slot_prefix (suc lower) prefix i
        → pages_of_entry (slot_read memory settings (suc lower) table i) ≡ 0
    references one is_use level prefix_is =
        let lower_is : one.level ≡ lower = omega arith in
        let reached : Reaches memory settings root lower (slot_prefix (suc lower) prefix i) one.frame one.bits =
        subst (λ (n : ℕ). Reaches memory settings root n (slot_prefix (suc lower) prefix i) one.frame one.bits) lower_is
        (subst (λ (x : ℕ). Reaches memory settings root one.level x one.frame one.bits) prefix_is is_use.reached) in
        let read = read_above lower table (slot_prefix (suc lower) prefix i) one.frame above one.bits
        (slot-reached lower table prefix above from count all i least less) reached in
        at-slot 0 (ap (λ (it : Option Entry). pages_of_entry it) read.1)

  -- the same at each level
  entry-unmapped : (level table prefix : ℕ) (above : Bits) (from count i : ℕ) (target : ℕ → Option (Target Protection))
      → AreReached memory settings root level table prefix above from count → 1 ≤ level → from ≤ i → i < from + count
      → IsMapOf memory settings root target → target (slot_prefix level prefix i) ≡ None
      → pages_of_entry (slot_read memory settings level table i) ≡ 0
  entry-unmapped zero table prefix above from count i target all some least less map none = absurd (omega arith)
  entry-unmapped (suc lower) table prefix above from count i target all some least less map none =
      unmapped lower table prefix above from count all i least less target map none

  entry-page : (level table prefix : ℕ) (above : Bits) (from count i : ℕ) (target : ℕ → Option (Target Protection)) (tables : List TableUse) (to : Target Protection)
      → AreReached memory settings root level table prefix above from count → 1 ≤ level → from ≤ i → i < from + count
      → IsMapOf memory settings root target → AreAll (IsUse memory settings root) tables → target (slot_prefix level prefix i) ≡ Some to
      → ((one : TableUse) → IsIn one tables → one.level + 1 ≡ level → one.prefix ≡ slot_prefix level prefix i → ⊥)
      → pages_of_entry (slot_read memory settings level table i) ≡ 1
  entry-page zero table prefix above from count i target tables to all some least less map uses is never = absurd (omega arith)
  entry-page (suc lower) table prefix above from count i target tables to all some least less map uses is never =
      page lower table prefix above from count all i least less target tables to map uses is never

  entry-table : (level table prefix : ℕ) (above : Bits) (from count i : ℕ) (one : TableUse)
      → AreReached memory settings root level table prefix above from count → 1 ≤ level → from ≤ i → i < from + count
      → IsUse memory settings root one → one.level + 1 ≡ level → one.prefix ≡ slot_prefix level prefix i
      → pages_of_entry (slot_read memory settings level table i) ≡ 0
  entry-table zero table prefix above from count i one all some least less is_use level_is prefix_is = absurd (omega arith)
  entry-table (suc lower) table prefix above from count i one all some least less is_use level_is prefix_is =
      references lower table prefix above from count all i least less one is_use level_is prefix_is

module _ (written : ℕ → Bool) (memory : Memory) (settings : Settings) (root : ℕ) (patch : Patch) where
  pub slot-unmapped : (target : ℕ → Option (Target Protection)) (i : ℕ) → IsPatch memory written settings root patch
      → IsMapOf memory settings root target → patch.from ≤ i → i < patch.from + patch.count
      → target (slot_prefix patch.table.level patch.table.prefix i) ≡ None
      → pages_of_entry (slot_read memory settings patch.table.level patch.table.frame i) ≡ 0
  slot-unmapped target i is map least less none =
      entry-unmapped memory settings root patch.table.level patch.table.frame patch.table.prefix patch.table.bits patch.from patch.count i target
      is.reached (some_level written memory settings root patch is) least less map none

  pub slot-table : (tables : List TableUse) (i : ℕ) (table : TableUse) → IsPatch memory written settings root patch
      → AreAll (IsUse memory settings root) tables → patch.from ≤ i → i < patch.from + patch.count → IsIn table tables → IsBelowEntry patch i table
      → pages_of_entry (slot_read memory settings patch.table.level patch.table.frame i) ≡ 0
  slot-table tables i table is all least less is_in at =
      entry-table memory settings root patch.table.level patch.table.frame patch.table.prefix patch.table.bits patch.from patch.count i table
      is.reached (some_level written memory settings root patch is) least less (all.some.have table is_in) at.level at.prefix

  pub slot-page : (target : ℕ → Option (Target Protection)) (tables : List TableUse) (i : ℕ) (to : Target Protection)
      → IsPatch memory written settings root patch → IsMapOf memory settings root target → AreAll (IsUse memory settings root) tables
      → patch.from ≤ i → i < patch.from + patch.count → target (slot_prefix patch.table.level patch.table.prefix i) ≡ Some to
      → ((table : TableUse) → IsIn table tables → IsBelowEntry patch i table → ⊥)
      → pages_of_entry (slot_read memory settings patch.table.level patch.table.frame i) ≡ 1
  slot-page target tables i to is map all least less some never =
      entry-page memory settings root patch.table.level patch.table.frame patch.table.prefix patch.table.bits patch.from patch.count i target tables to
      is.reached (some_level written memory settings root patch is) least less map all some (λ table is_in level prefix. never table is_in (record { level = level; prefix = prefix }))
