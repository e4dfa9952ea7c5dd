-- Where a patch lies: in the range of its table, which is used.
use Rattle.std.proofs.Common.{◌≡◌, ℕ, suc, ◌+◌, ◌*◌, ◌/◌, ◌%◌, ◌^◌, ◌<◌, ◌≤◌, inr, Bool, sym, ◌∙◌, subst, arith}
use Rattle.paging_model.specs.LinearAddress.{span}
use Rattle.paging_model.specs.Memory.{Memory}
use Rattle.paging_model.specs.TableUses.{IsPrefix, IsUse}
use Rattle.paging_model.specs.Walking.{top_level}
use Rattle.paging_model.specs.declared.registers.Settings.{Settings}
use Rattle.paging_laws.proofs.Reaching.{Reaches-same_span}
use Rattle.paging_laws.proofs.Serving.{Reaches-some, first_of, first_of-same, first_of-prefix, whole_is_one}
use Rattle.paging_laws.proofs.SlotRanges.{span_least, span_suc, slot_whole, slot_ends, slot_starts}
use Rattle.kept_laws.specs.Patches.{low_of, high_of, IsPatch}
use Rattle.kept_laws.specs.declared.patches.Patch.{Patch}
use Rattle.page_laws.proofs.Ranges.{table_range, from_whole, before_whole}

module _ (written : ℕ → Bool) (memory : Memory) (settings : Settings) (root : ℕ) where
  -- the first address of a patch
  pub first_in : (patch : Patch) → IsPatch memory written settings root patch → low_of patch < high_of patch
  first_in patch is =
      let least = span_least patch.table.level in
      let more = slot_ends (span patch.table.level) patch.table.prefix patch.from (patch.from + patch.count) (omega (arith, is.some)) in
      omega arith

  pub some_level : (patch : Patch) → IsPatch memory written settings root patch → 1 ≤ patch.table.level
  some_level patch is = Reaches-some (is.reached.reached (low_of patch) (omega arith) (first_in patch is))

  -- a patch lies in the range of its table
  pub low_in : (patch : Patch) → IsPatch memory written settings root patch → (x : ℕ) → low_of patch ≤ x → patch.table.prefix ≤ x
  low_in patch is x low = let up = slot_starts (span patch.table.level) patch.table.prefix 0 patch.from (omega arith) in omega arith

  pub high_in : (patch : Patch) → IsPatch memory written settings root patch → (x : ℕ) → x < high_of patch → x < patch.table.prefix + 512 * span patch.table.level
  high_in patch is x high =
      let up = slot_starts (span patch.table.level) patch.table.prefix (patch.from + patch.count) 512 is.reached.slots in
      omega arith

  -- of one range of its level, or of a lower one, a patch has all addresses or none
  pub patch-has : (patch : Patch) → IsPatch memory written settings root patch → (x y : ℕ) → x / span patch.table.level ≡ y / span patch.table.level
      → low_of patch ≤ x → x < high_of patch → (low_of patch ≤ y) × (y < high_of patch)
  patch-has patch is x y same low high =
      let some : 0 < span patch.table.level = let least = span_least patch.table.level in omega arith in (
        from_whole (span patch.table.level) (low_of patch) x y some
            (slot_whole (span patch.table.level) patch.table.prefix patch.from some is.reached.whole) same low,
        before_whole (span patch.table.level) (high_of patch) x y some
            (slot_whole (span patch.table.level) patch.table.prefix (patch.from + patch.count) some is.reached.whole) same high,
      )

  -- the table of a patch is used
  pub patch-use : (patch : Patch) → IsPatch memory written settings root patch → patch.table.level < top_level settings
      → IsUse memory settings root patch.table
  patch-use patch is lower =
      let some = some_level patch is in
      let first = first_in patch is in
      let came = is.reached.reached (low_of patch) (omega arith) first in
      let range = table_range patch.table.level patch.table.prefix (low_of patch) some is.reached.whole
      (low_in patch is (low_of patch) (omega arith)) (high_in patch is (low_of patch) first) in
      let below : low_of patch < 2 ^ 64 = let inside = high_in patch is (low_of patch) first in omega (arith, is.reached.ends) in
      let begins_it = first_of-prefix settings (patch.table.level + 1) (low_of patch) (omega arith) below
      (is.reached.canonical (low_of patch) (omega arith) first) in
      let next : suc patch.table.level ≡ patch.table.level + 1 = omega arith in
      let longer : 512 * span patch.table.level ≡ span (patch.table.level + 1) =
      sym (subst (λ (n : ℕ). span n ≡ 512 * span patch.table.level) next (span_suc patch.table.level some)) in
      let whole : patch.table.prefix % span (patch.table.level + 1) ≡ 0 = subst (λ (w : ℕ). patch.table.prefix % w ≡ 0) longer is.reached.whole in
      let same : first_of (patch.table.level + 1) (low_of patch) ≡ patch.table.prefix =
      whole_is_one (first_of (patch.table.level + 1) (low_of patch)) patch.table.prefix (span (patch.table.level + 1))
      (sym (first_of-same (patch.table.level + 1) (low_of patch)) ∙ range) begins_it.whole whole in
      record {
        serves = inr (some, lower, subst (λ (n : ℕ). IsPrefix settings (patch.table.level + 1) n) same begins_it);
        reached = Reaches-same_span came range;
      }
