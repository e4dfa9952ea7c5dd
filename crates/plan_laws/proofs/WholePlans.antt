-- A plan has exactly the addresses whose walks read a written entry.
use Rattle.std.proofs.Common.{◌≡◌, ℕ, ◌+◌, ◌-◌, ◌*◌, ◌%◌, ◌^◌, ◌<◌, ◌≤◌, inl, inr, refl, sym, ap, ◌∙◌, subst, arith}
use Rattle.std.specs.Prelude.{IsTrue, List, [], ◌∷◌, min, max, Bool}
use Rattle.std.proofs.lemmas.Bool.{cases_lt}
use Rattle.paging_model.specs.Counting.{IsIn, AreDistinct, AreAll}
use Rattle.paging_model.specs.Memory.{Memory}
use Rattle.paging_model.specs.LinearAddress.{span, index, is_canonical}
use Rattle.paging_model.specs.TableUses.{IsUse}
use Rattle.paging_model.specs.Walking.{entry_address, top_level}
use Rattle.paging_model.specs.declared.registers.Settings.{Settings}
use Rattle.paging_model.specs.declared.spaces.TableUse.{TableUse}
use Rattle.paging_laws.specs.SpaceParts.{slot_prefix, upper_prefix}
use Rattle.paging_laws.specs.ServedAddresses.{IsServedBy}
use Rattle.paging_laws.proofs.Reaching.{Reaches-level}
use Rattle.paging_laws.proofs.Serving.{use_for, whole_is_one}
use Rattle.paging_laws.proofs.SlotRanges.{span_least, slot_starts, slot_ends, slot_of, number_for}
use Rattle.paging_laws.proofs.SpaceHalves.{lower-half, upper-half, in_half}
use Rattle.paging_laws.proofs.TableFrames.{Reaches-aligned}
use Rattle.kept_laws.specs.Patches.{low_of, high_of, IsPatch, IsPatched, ArePatches, AreSeparate}
use Rattle.kept_laws.specs.WrittenPlaces.{meets_slots, ReadsNoneAbove, ReadsOne}
use Rattle.kept_laws.specs.declared.patches.Patch.{Patch}
use Rattle.plan_laws.specs.Plans.{patch_at, IsPartOf, lower_part, lower_half, upper_half, AreSorted, ArePlanned}
use Rattle.plan_laws.proofs.WrittenSlots.{met-slot, never-both, none-moved, same-range, range-has, longer, in-part}
use Rattle.plan_laws.proofs.PlanPatches.{min-is, max-is, part-is_patch, none-above, not-covered}
use Rattle.plan_laws.proofs.OwnTables.{own-tables}

module _ (memory : Memory) (written : ℕ → Bool) (settings : Settings) (root : ℕ) where
  -- a patch begins before it ends
  pub begins-before : (patch : Patch) → IsPatch memory written settings root patch → low_of patch < high_of patch
  begins-before patch is =
      let some = span_least patch.table.level in
      let ends = slot_ends (span patch.table.level) patch.table.prefix patch.from (patch.from + patch.count) (omega (arith, is.some)) in
      omega arith

  -- two patches that have an address in common are of one level
  no-higher : (one other : Patch) → IsPatch memory written settings root one → IsPatch memory written settings root other
      → (x : ℕ) → low_of one ≤ x → x < high_of one → low_of other ≤ x → x < high_of other
      → one.table.level ≤ other.table.level
  no-higher one other is_one is_other x low high low' high' = elim (cases_lt other.table.level one.table.level) [
    | inl higher ↦
        absurd (never-both (written (entry_address one.table.level x one.table.frame)) (is_one.is_written x low high)
        (is_other.none_above x low' high' one.table.level one.table.frame one.table.bits higher (is_one.reached.reached x low high)))
    | inr within ↦ within
  ]

  -- and of one prefix, where their levels are one
  one-prefix : (w one other x from end from' end' : ℕ) → 0 < w → one % (512 * w) ≡ 0 → other % (512 * w) ≡ 0 → end ≤ 512 → end' ≤ 512
      → one + from * w ≤ x → x < one + end * w → other + from' * w ≤ x → x < other + end' * w → one ≡ other
  one-prefix w one other x from end from' end' some whole whole' few few' low high low' high' =
      let up = slot_starts w one end 512 few in
      let up' = slot_starts w other end' 512 few' in
      let down = slot_starts w one 0 from (omega arith) in
      let down' = slot_starts w other 0 from' (omega arith) in
      whole_is_one one other (512 * w)
      (sym (same-range (512 * w) one x whole (omega arith) (omega arith)) ∙ same-range (512 * w) other x whole' (omega arith) (omega arith))
      whole whole'

  -- the one that begins first of two that aren't of one table ends before the other begins
  patches-apart : (one other : Patch) → IsPatch memory written settings root one → IsPatch memory written settings root other
      → low_of one ≤ low_of other → (one.table.level ≡ other.table.level → one.table.prefix ≡ other.table.prefix → ⊥)
      → high_of one ≤ low_of other
  patches-apart one other is_one is_other order differ = elim (cases_lt (low_of other) (high_of one)) [
    | inl meet ↦
        let inside = begins-before other is_other in
        let up = no-higher one other is_one is_other (low_of other) order meet (omega arith) inside in
        let down = no-higher other one is_other is_one (low_of other) (omega arith) inside order meet in
        let level : one.table.level ≡ other.table.level = omega arith in
        let some = span_least one.table.level in
        let long : span other.table.level ≡ span one.table.level = ap span (sym level) in
        let whole : other.table.prefix % (512 * span one.table.level) ≡ 0 =
        subst (λ (w : ℕ). other.table.prefix % (512 * w) ≡ 0) long is_other.reached.whole in
        let inside' : other.table.prefix + other.from * span other.table.level < other.table.prefix + (other.from + other.count) * span one.table.level =
        subst (λ (w : ℕ). low_of other < other.table.prefix + (other.from + other.count) * w) long inside in
        let starts : other.table.prefix + other.from * span one.table.level ≤ other.table.prefix + other.from * span other.table.level =
        subst (λ (w : ℕ). other.table.prefix + other.from * w ≤ low_of other) long (omega arith) in
        absurd (differ level
        (one-prefix (span one.table.level) one.table.prefix other.table.prefix (low_of other) one.from (one.from + one.count) other.from (other.from + other.count)
        (omega arith) is_one.reached.whole whole is_one.reached.slots is_other.reached.slots order meet starts inside'))
    | inr apart ↦ apart
  ]

  -- sorted patches of different tables ascend
  are-ascending : (patches : List Patch) → ((patch : Patch) → IsIn patch patches → IsPatch memory written settings root patch)
      → ((one other : Patch) → IsIn one patches → IsIn other patches → one.table.level ≡ other.table.level
      → one.table.prefix ≡ other.table.prefix → one ≡ other)
      → AreSorted patches → AreDistinct patches → AreSeparate patches
  are-ascending [] each own sorted distinct = tt
  are-ascending (one ∷ []) each own sorted distinct = tt
  are-ascending (one ∷ two ∷ rest) each own sorted distinct = (
    patches-apart one two (each one (inl refl)) (each two (inr (inl refl))) sorted.0
        (λ level prefix. distinct.0 (inl (own one two (inl refl) (inr (inl refl)) level prefix))),
    are-ascending (two ∷ rest) (λ patch is. each patch (inr is)) (λ it other is is'. own it other (inr is) (inr is')) sorted.1 distinct.1,
  )

-- a use of the written frame that no written entry is read above, which serves an address by a written entry
record IsPlannedFor (memory : Memory) (settings : Settings) (root frame first last x : ℕ) : Type 0 where
  table : TableUse
  is_use : IsUse memory settings root table
  is_frame : table.frame ≡ frame
  served : IsServedBy settings table x
  from : first ≤ index table.level x
  to : index table.level x ≤ last
  none : ReadsNoneAbove memory (meets_slots frame first last) settings root table.prefix table.level

module _ (memory : Memory) (settings : Settings) (root frame first last : ℕ) (order : first ≤ last) (short : last < 512)
    (whole : frame % 4096 ≡ 0) (root_whole : root % 4096 ≡ 0) where
  -- each address whose walk reads a written entry has one
  planned-for : (x : ℕ) → x < 2 ^ 64 → IsTrue (is_canonical settings.la57 x)
      → ReadsOne memory (meets_slots frame first last) settings root x → IsPlannedFor memory settings root frame first last x
  planned-for x in_range canonical one =
      let it = use_for x one.level one.table one.above in_range canonical one.outermost.reached in
      let at = met-slot frame first last one.table (index one.level x) whole (Reaches-aligned root_whole one.outermost.reached) (omega arith) order short one.outermost.is_written in
      let none : ReadsNoneAbove memory (meets_slots frame first last) settings root x it.table.level =
      subst (λ (n : ℕ). ReadsNoneAbove memory (meets_slots frame first last) settings root x n) (sym it.is_level) one.outermost.none_above in
      record {
        table = it.table;
        is_use = it.is_use;
        is_frame = it.is_frame ∙ at.0;
        served = it.served;
        from = subst (λ (n : ℕ). first ≤ index n x) (sym it.is_level) at.1;
        to = subst (λ (n : ℕ). index n x ≤ last) (sym it.is_level) at.2;
        none = elim it.served [
          | inl top ↦ λ level t above more reached. absurd (let most = Reaches-level reached in omega arith)
          | inr same ↦ none-moved memory (meets_slots frame first last) settings root it.table.level x it.table.prefix same none
        ];
      }

  -- the address lies in the part of a lower table
  in-lower : (x : ℕ) (it : IsPlannedFor memory settings root frame first last x) → it.table.level < top_level settings
      → (low_of (patch_at it.table it.table.prefix first last) ≤ x) × (x < high_of (patch_at it.table it.table.prefix first last))
  in-lower x it lower = elim it.served [
    | inl top ↦ absurd (omega arith)
    | inr same ↦ elim it.is_use.serves [
      | inl top ↦ absurd (omega (arith, top.0))
      | inr serves ↦
          let some = span_least (it.table.level + 1) in
          let wider = longer it.table.level serves.0 in
          let range = range-has (span (it.table.level + 1)) it.table.prefix x (omega arith) serves.2.whole same in
          in-part it.table.level it.table.prefix 0 512 first (last + 1 - first) x
          (subst (λ (w : ℕ). it.table.prefix % w ≡ 0) wider serves.2.whole) (omega arith)
          (omega (arith, range.0)) (omega (arith, range.1, wider)) it.from (omega (arith, it.to))
    ]
  ]

  module _ (tables : List TableUse) (patches : List Patch) (all : AreAll (IsUse memory settings root) tables)
      (plan : ArePlanned settings first last frame tables patches) where
    -- a part of such a use is among the patches
    part-in : (x : ℕ) (it : IsPlannedFor memory settings root frame first last x) (patch : Patch)
        → IsPartOf settings first last it.table patch → IsIn patch patches
    part-in x it patch part =
        plan.all it.table patch (all.all it.table it.is_use) it.is_frame
        (not-covered memory settings root frame first last order short tables all it.table it.none) part

    in-top : (x : ℕ) (it : IsPlannedFor memory settings root frame first last x) → it.table.level ≡ top_level settings
        → x < 2 ^ 64 → IsTrue (is_canonical settings.la57 x) → IsPatched patches x
    in-top x it top in_range canonical =
        let from : first ≤ index (top_level settings) x = subst (λ (n : ℕ). first ≤ index n x) top it.from in
        let to : index (top_level settings) x ≤ last = subst (λ (n : ℕ). index n x ≤ last) top it.to in
        elim (in_half settings x in_range canonical) [
          | inl low ↦
              let half = lower-half memory settings root in
              let slot = number_for (top_level settings) 0 0 256 x low.0 low.1 in
              let number : index (top_level settings) x ≡ slot.number =
              slot_of (span (top_level settings)) 0 slot.number x half.whole (omega (arith, slot.less)) slot.low slot.high in
              let least = min-is last 255 in
              let within : index (top_level settings) x ≤ min last 255 = elim least.2 [ inl is ↦ omega arith | inr is ↦ omega (arith, slot.less) ] in
              let range = in-part (top_level settings) 0 0 256 first (min last 255 + 1 - first) x half.whole (omega arith) low.0 low.1 from (omega arith) in
              record {
                patch = patch_at it.table 0 first (min last 255);
                is_in = part-in x it (patch_at it.table 0 first (min last 255)) (lower_half top (omega (arith, slot.less)) refl);
                low = subst (λ (n : ℕ). slot_prefix n 0 first ≤ x) (sym top) range.0;
                high = subst (λ (n : ℕ). x < slot_prefix n 0 (first + (min last 255 + 1 - first))) (sym top) range.1;
              }
          | inr high ↦
              let half = upper-half memory settings root in
              let slot = number_for (top_level settings) (upper_prefix settings) 256 256 x high.0 high.1 in
              let number : index (top_level settings) x ≡ slot.number =
              slot_of (span (top_level settings)) (upper_prefix settings) slot.number x half.whole (omega (arith, slot.less)) slot.low slot.high in
              let most = max-is first 256 in
              let within : max first 256 ≤ index (top_level settings) x = elim most.2 [ inl is ↦ omega arith | inr is ↦ omega (arith, slot.least) ] in
              let range = in-part (top_level settings) (upper_prefix settings) 256 256 (max first 256) (last + 1 - max first 256) x half.whole (omega arith) high.0 high.1 within (omega arith) in
              record {
                patch = patch_at it.table (upper_prefix settings) (max first 256) last;
                is_in = part-in x it (patch_at it.table (upper_prefix settings) (max first 256) last) (upper_half top (omega (arith, slot.least)) refl);
                low = subst (λ (n : ℕ). slot_prefix n (upper_prefix settings) (max first 256) ≤ x) (sym top) range.0;
                high = subst (λ (n : ℕ). x < slot_prefix n (upper_prefix settings) (max first 256 + (last + 1 - max first 256))) (sym top) range.1;
              }
        ]

    in-one : (x : ℕ) → x < 2 ^ 64 → IsTrue (is_canonical settings.la57 x) → ReadsOne memory (meets_slots frame first last) settings root x
        → IsPatched patches x
    in-one x in_range canonical one =
        let it = planned-for x in_range canonical one in
        elim (cases_lt it.table.level (top_level settings)) [
          | inl lower ↦
              let range = in-lower x it lower in
              record {
                patch = patch_at it.table it.table.prefix first last;
                is_in = part-in x it (patch_at it.table it.table.prefix first last) (lower_part lower refl);
                low = range.0;
                high = range.1;
              }
          | inr more ↦
              let top : it.table.level ≡ top_level settings = let most = Reaches-level it.is_use.reached in omega arith in
              in-top x it top in_range canonical
        ]

    each-is_patch : (patch : Patch) → IsIn patch patches → IsPatch memory (meets_slots frame first last) settings root patch
    each-is_patch patch is_in =
        let it = plan.each patch is_in in
        let is_use = all.some.have it.0 it.1 in
        part-is_patch memory settings root frame first last order short it.0 patch is_use it.2
        (none-above memory settings root frame first last order short tables all it.0 root_whole whole is_use it.3) it.4

    are-patches : ArePatches memory (meets_slots frame first last) settings root patches
    are-patches = record {
      each = each-is_patch;
      all = in-one;
      ascending =
          are-ascending memory (meets_slots frame first last) settings root patches each-is_patch
          (own-tables memory settings root patches frame first last tables all plan) plan.sorted plan.distinct;
    }

pub planned-are : (memory : Memory) (settings : Settings) (root : ℕ) (patches : List Patch) (frame first last : ℕ) (tables : List TableUse)
    → first ≤ last → last < 512 → frame % 4096 ≡ 0 → root % 4096 ≡ 0
    → AreAll (IsUse memory settings root) tables → ArePlanned settings first last frame tables patches
    → ArePatches memory (meets_slots frame first last) settings root patches
planned-are memory settings root patches frame first last tables order short whole root_whole all plan =
    are-patches memory settings root frame first last order short whole root_whole tables patches all plan
