-- The patches of the uses of a written frame.
use Rattle.std.proofs.Common.{◌≡◌, ℕ, ◌+◌, ◌-◌, ◌*◌, ◌%◌, ◌<◌, ◌≤◌, ◌⊎◌, inl, inr, true, refl, sym, ◌∙◌, subst, arith}
use Rattle.std.specs.Prelude.{List, min, max}
use Rattle.std.proofs.lemmas.Bool.{cases_lt}
use Rattle.paging_model.specs.Counting.{AreAll}
use Rattle.paging_model.specs.Memory.{Memory}
use Rattle.paging_model.specs.LinearAddress.{span, index}
use Rattle.paging_model.specs.Entries.{root_bits}
use Rattle.paging_model.specs.TableUses.{Reaches, at_root, IsUse}
use Rattle.paging_model.specs.Walking.{entry_address, top_level}
use Rattle.paging_model.specs.declared.registers.Settings.{Settings}
use Rattle.paging_model.specs.declared.entries.Bits.{Bits}
use Rattle.paging_model.specs.declared.spaces.TableUse.{TableUse}
use Rattle.paging_laws.specs.SpaceParts.{upper_prefix}
use Rattle.paging_laws.specs.ReachedSlots.{AreReached}
use Rattle.paging_laws.proofs.Reaching.{Reaches-level, served_by_use, use_is_one}
use Rattle.paging_laws.proofs.ReachedUses.{use-reached}
use Rattle.paging_laws.proofs.Serving.{Reaches-some, use_for}
use Rattle.paging_laws.proofs.SlotRanges.{slot_of, number_for, slot_starts}
use Rattle.paging_laws.proofs.SpaceHalves.{lower-half, upper-half}
use Rattle.paging_laws.proofs.TableFrames.{Reaches-aligned}
use Rattle.kept_laws.specs.Patches.{low_of, high_of, IsPatch}
use Rattle.kept_laws.specs.WrittenPlaces.{meets_slots, ReadsNoneAbove}
use Rattle.kept_laws.specs.declared.patches.Patch.{Patch}
use Rattle.plan_laws.specs.Plans.{patch_at, IsPartOf, lower_part, lower_half, upper_half, IsCovered}
use Rattle.plan_laws.proofs.WrittenSlots.{met-slot, slot-met, never-both, false-unless, none-moved, same-range, longer, narrow}

-- the use of the top table
abbrev pub root_use : Settings → ℕ → TableUse
root_use settings root = record { level = top_level settings; prefix = 0; frame = root; bits = root_bits }

pub min-is : (a b : ℕ) → (min a b ≤ a) × (min a b ≤ b) × ((min a b ≡ a) ⊎ (min a b ≡ b))
min-is a b = elim (cases_lt a b) [
  | inl less ↦ (omega arith, omega arith, inl (omega arith))
  | inr more ↦ (omega arith, omega arith, inr (omega arith))
]

pub max-is : (a b : ℕ) → (a ≤ max a b) × (b ≤ max a b) × ((max a b ≡ a) ⊎ (max a b ≡ b))
max-is a b = elim (cases_lt a b) [
  | inl less ↦ (omega arith, omega arith, inr (omega arith))
  | inr more ↦ (omega arith, omega arith, inl (omega arith))
]

module _ (memory : Memory) (settings : Settings) (root : ℕ) where
  -- the top level has one use
  pub top-is_root : (table : TableUse) → IsUse memory settings root table → table.level ≡ top_level settings → table ≡ root_use settings root
  top-is_root table is_use top =
      let prefix : table.prefix ≡ 0 = elim is_use.serves [
        | inl is ↦ is.1
        | inr lower ↦ absurd (omega (arith, lower.1))
      ] in
      use_is_one {memory = memory} {settings = settings} {root = root} table (root_use settings root) is_use
      (record { serves = inl (refl, refl); reached = at_root }) top prefix

module _ (memory : Memory) (settings : Settings) (root frame first last : ℕ) (order : first ≤ last) (short : last < 512) where
  -- reached slots of the frame that no written entry is read above are a patch
  slots-patch : (patch : Patch)
      → AreReached memory settings root patch.table.level patch.table.frame patch.table.prefix patch.table.bits patch.from patch.count
      → patch.table.frame ≡ frame → 1 ≤ patch.count → first ≤ patch.from → patch.from + patch.count ≤ last + 1
      → ((x : ℕ) → low_of patch ≤ x → x < high_of patch
      → ReadsNoneAbove memory (meets_slots frame first last) settings root x patch.table.level)
      → IsPatch memory (meets_slots frame first last) settings root patch
  slots-patch patch reached same some begins ends none = record {
    some = some;
    reached = reached;
    is_written = λ x low high.
        let slot = number_for patch.table.level patch.table.prefix patch.from patch.count x low high in
        let number : index patch.table.level x ≡ slot.number =
        slot_of (span patch.table.level) patch.table.prefix slot.number x reached.whole (omega (arith, slot.less, reached.slots)) slot.low slot.high in
        subst (λ (n : ℕ). meets_slots frame first last (patch.table.frame + 8 * n) ≡ true) (sym number)
        (subst (λ (n : ℕ). meets_slots frame first last (n + 8 * slot.number) ≡ true) (sym same)
        (slot-met frame first last slot.number order (omega (arith, slot.least)) (omega (arith, slot.less))));
    none_above = none;
  }

  -- the slots of a lower table
  lower-patch : (table : TableUse) → IsUse memory settings root table → table.level < top_level settings → table.frame ≡ frame
      → ReadsNoneAbove memory (meets_slots frame first last) settings root table.prefix table.level
      → IsPatch memory (meets_slots frame first last) settings root (patch_at table table.prefix first last)
  lower-patch table is_use lower same none =
      let reached = use-reached memory settings root table first (last + 1 - first) is_use lower (omega arith) in
      let wider = longer table.level (Reaches-some is_use.reached) in
      let whole : table.prefix % span (table.level + 1) ≡ 0 = subst (λ (w : ℕ). table.prefix % w ≡ 0) (sym wider) reached.whole in
      slots-patch (patch_at table table.prefix first last) reached same (omega arith) (omega arith) (omega arith)
      (λ x low high.
      let begin = slot_starts (span table.level) table.prefix 0 first (omega arith) in
      let end = slot_starts (span table.level) table.prefix (first + (last + 1 - first)) 512 (omega arith) in
      none-moved memory (meets_slots frame first last) settings root table.level table.prefix x
      (sym (same-range (span (table.level + 1)) table.prefix x whole (omega arith) (omega arith))) none)

  -- the slots of the top table in one half
  top-patch : (table : TableUse) (prefix from to : ℕ) → IsUse memory settings root table → table.level ≡ top_level settings → table.frame ≡ frame
      → first ≤ from → from ≤ to → to ≤ last
      → AreReached memory settings root (top_level settings) root prefix root_bits from (to + 1 - from)
      → IsPatch memory (meets_slots frame first last) settings root (patch_at table prefix from to)
  top-patch table prefix from to is_use top same begins some ends reached =
      slots-patch (patch_at table prefix from to)
      (subst (λ (it : TableUse). AreReached memory settings root it.level it.frame prefix it.bits from (to + 1 - from))
      (sym (top-is_root memory settings root table is_use top)) reached)
      same (omega arith) begins (omega arith)
      (λ x low high level t above more reaches. absurd (let most = Reaches-level reaches in omega arith))

  -- each part of a use of the frame that no written entry is read above is a patch
  pub part-is_patch : (table : TableUse) (patch : Patch) → IsUse memory settings root table → table.frame ≡ frame
      → ReadsNoneAbove memory (meets_slots frame first last) settings root table.prefix table.level
      → IsPartOf settings first last table patch → IsPatch memory (meets_slots frame first last) settings root patch
  part-is_patch table patch is_use same none (lower_part lower is) =
      subst (λ (it : Patch). IsPatch memory (meets_slots frame first last) settings root it) (sym is)
      (lower-patch table is_use lower same none)
  part-is_patch table patch is_use same none (lower_half top few is) =
      let least = min-is last 255 in
      let some : first ≤ min last 255 = elim least.2 [ inl whole ↦ omega arith | inr part ↦ omega arith ] in
      subst (λ (it : Patch). IsPatch memory (meets_slots frame first last) settings root it) (sym is)
      (top-patch table 0 first (min last 255) is_use top same (omega arith) some least.0
      (narrow memory settings root (top_level settings) root 0 root_bits 0 256 first (min last 255 + 1 - first)
      (lower-half memory settings root) (omega arith) (omega (arith, least.1))))
  part-is_patch table patch is_use same none (upper_half top many is) =
      let most = max-is first 256 in
      let some : max first 256 ≤ last = elim most.2 [ inl whole ↦ omega arith | inr part ↦ omega arith ] in
      subst (λ (it : Patch). IsPatch memory (meets_slots frame first last) settings root it) (sym is)
      (top-patch table (upper_prefix settings) (max first 256) last is_use top same most.0 some (omega arith)
      (narrow memory settings root (top_level settings) root (upper_prefix settings) root_bits 256 256 (max first 256) (last + 1 - max first 256)
      (upper-half memory settings root) most.1 (omega (arith, some))))

  module _ (tables : List TableUse) (all : AreAll (IsUse memory settings root) tables) where
    -- a written entry that is read above a use covers it
    covers : (table : TableUse) (level t : ℕ) (above : Bits) → root % 4096 ≡ 0 → frame % 4096 ≡ 0 → IsUse memory settings root table
        → table.level < level → Reaches memory settings root level table.prefix t above
        → meets_slots frame first last (entry_address level table.prefix t) ≡ true → IsCovered settings first last frame tables table
    covers table level t above root_whole whole is_use more reached is = elim is_use.serves [
      | inl top ↦ absurd (let most = Reaches-level reached in omega (arith, top.0))
      | inr lower ↦
          let it = use_for table.prefix level t above lower.2.below lower.2.canonical reached in
          let at = met-slot frame first last t (index level table.prefix) whole (Reaches-aligned root_whole reached) (omega arith) order short is in
          record {
            upper = it.table;
            is_in = all.all it.table it.is_use;
            is_frame = it.is_frame ∙ at.0;
            higher = omega (arith, it.is_level);
            serves = it.served;
            from = subst (λ (n : ℕ). first ≤ index n table.prefix) (sym it.is_level) at.1;
            to = subst (λ (n : ℕ). index n table.prefix ≤ last) (sym it.is_level) at.2;
          }
    ]

    -- so none is read above a use that isn't covered
    pub none-above : (table : TableUse) → root % 4096 ≡ 0 → frame % 4096 ≡ 0 → IsUse memory settings root table
        → (IsCovered settings first last frame tables table → ⊥)
        → ReadsNoneAbove memory (meets_slots frame first last) settings root table.prefix table.level
    none-above table root_whole whole is_use free level t above more reached =
        false-unless (meets_slots frame first last (entry_address level table.prefix t))
        (λ is. free (covers table level t above root_whole whole is_use more reached is))

    -- and the other way round
    pub not-covered : (table : TableUse)
        → ReadsNoneAbove memory (meets_slots frame first last) settings root table.prefix table.level
        → IsCovered settings first last frame tables table → ⊥
    not-covered table none covered =
        let upper = all.some.have covered.upper covered.is_in in
        let read = none covered.upper.level covered.upper.frame covered.upper.bits covered.higher (served_by_use covered.upper upper covered.serves) in
        let slot = slot-met frame first last (index covered.upper.level table.prefix) order covered.from covered.to in
        never-both (meets_slots frame first last (entry_address covered.upper.level table.prefix covered.upper.frame))
        (subst (λ (n : ℕ). meets_slots frame first last (n + 8 * index covered.upper.level table.prefix) ≡ true) (sym covered.is_frame) slot) read
