-- The walk of patches, one after another.
use Rattle.std.proofs.Common.{◌≡◌, ℕ, false, ◌+◌, ◌*◌, ◌%◌, ◌^◌, ◌<◌, ◌≤◌, ◌⊎◌, inl, inr, None, List, [], ◌∷◌, ◌++◌, length, take, drop, get_or, refl, sym, ap, ◌∙◌, subst, arith, length-append}
use Rattle.std.specs.Prelude.{map}
use Rattle.std.proofs.lemmas.Bool.{cases_lt}
use Rattle.std.proofs.lemmas.List.{append-nil, map-append, take_more, take_all, drop_more, take-append-drop}
use Rattle.std.proofs.Math.Nat.{mul-le-mul_right}
use Rattle.paging_model.specs.Counting.{IsIn}
use Rattle.paging_model.specs.Memory.{Memory}
use Rattle.paging_model.specs.LinearAddress.{span}
use Rattle.paging_model.specs.declared.registers.Settings.{Settings}
use Rattle.paging_model.specs.declared.spaces.Region.{Region}
use Rattle.paging_model.specs.declared.spaces.TableUse.{TableUse}
use Rattle.paging_laws.proofs.EntryLaws.{uses_in-range}
use Rattle.paging_laws.proofs.Membership.{in-append, append-left, append-right}
use Rattle.paging_laws.proofs.SlotRanges.{span_least}
use Rattle.kept_laws.specs.PageNumbers.{pages_in_patch}
use Rattle.kept_laws.specs.Patches.{AreSeparate, IsPatched, entries_of, high_of, leaves_in_patch, leaves_in_patches, low_of, uses_in_patch, uses_in_patches}
use Rattle.kept_laws.specs.declared.patches.Patch.{Patch}
use Rattle.region_map.specs.Coalesced.{target_at}
use Rattle.space_map.specs.MappedRanges.{Mapping}
use Rattle.space_map.specs.PartialSpaces.{ExceedsLimits}
use Rattle.space_map.specs.PatchWalks.{AreFresh, ArePatchesWalked, AreShaped, IsPatchWalked, IsShaped, patches_end, patches_start}
use Rattle.space_map.specs.WalkedIndexes.{IsFresh, IsJoined}
use Rattle.space_map.specs.Walks.{target_from}
use Rattle.space_map.specs.declared.partial.PartialSpace.{PartialSpace}
use Rattle.space_map.proofs.IndexWalks.{joined-none, joined-both}

pub in-take : {Thing : Type 0} (things : List Thing) (i : ℕ) (x : Thing) → IsIn x (take i things) → IsIn x things
in-take things i x is = subst (λ (it : List _). IsIn x it) (take-append-drop i things) (append-left (take i things) (drop i things) x is)

pub in-drop : {Thing : Type 0} (things : List Thing) (i : ℕ) (x : Thing) → IsIn x (drop i things) → IsIn x things
in-drop things i x is = subst (λ (it : List _). IsIn x it) (take-append-drop i things) (append-right (take i things) (drop i things) x is)

append-assoc : {Thing : Type 0} (xs ys zs : List Thing) → xs ++ (ys ++ zs) ≡ (xs ++ ys) ++ zs
append-assoc [] ys zs = refl
append-assoc (x ∷ xs) ys zs = ap (λ rest. x ∷ rest) (append-assoc xs ys zs)

-- after the last byte of a page a page begins, also where the addresses end
pub wrapped-page : (last : ℕ) → last % 4096 ≡ 4095 → (last + 1) % 2 ^ 64 % 4096 ≡ 0
wrapped-page last ends = omega (arith, ends)

-- any patch
abbrev pub no_patch : Patch
no_patch = record {
  table = record { level = 0; prefix = 0; frame = 0; bits = record { write = false; user = false; xd = false } };
  from = 0;
  count = 0;
}

-- what is done, one patch, and the rest
pub record Done (patches : List Patch) (i : ℕ) (patch : Patch) : Type 0 where
  pub before : take (i + 1) patches ≡ take i patches ++ patch ∷ []
  pub after : drop i patches ≡ patch ∷ drop (i + 1) patches

pub done-at : (patches : List Patch) (i : ℕ) (d : Patch) → i < length patches → Done patches i (get_or patches i d)
done-at patches i d within = record { before = take_more patches i d within; after = drop_more patches i d within }

pub done-in : (patches : List Patch) (i : ℕ) (patch : Patch) → Done patches i patch → IsIn patch patches
done-in patches i patch at = in-drop patches i patch (subst (λ (it : List Patch). IsIn patch it) (sym at.after) (inl refl))

-- a number for each patch, one patch more
pub numbers-next : (memory : Memory) (settings : Settings) (patches : List Patch) (i : ℕ) (patch : Patch) → Done patches i patch
    → (pages pages' : List ℕ) (own : ℕ) → pages' ≡ pages ++ own ∷ []
    → pages ≡ map (λ (it : Patch). pages_in_patch memory settings it) (take i patches) → own ≡ pages_in_patch memory settings patch
    → pages' ≡ map (λ (it : Patch). pages_in_patch memory settings it) (take (i + 1) patches)
numbers-next memory settings patches i patch at pages pages' own is before here =
    is
    ∙ (ap (λ (it : List ℕ). it ++ own ∷ []) before
    ∙ (ap (λ (n : ℕ). map (λ (it : Patch). pages_in_patch memory settings it) (take i patches) ++ n ∷ []) here
    ∙ (sym (map-append (λ (it : Patch). pages_in_patch memory settings it) (take i patches) (patch ∷ []))
    ∙ ap (λ (it : List Patch). map (λ (one : Patch). pages_in_patch memory settings one) it) (sym at.before))))

pub end_of-next : (start : ℕ) (some : List Patch) (one : Patch) → patches_end start (some ++ one ∷ []) ≡ high_of one
end_of-next start [] one = refl
end_of-next start (first ∷ rest) one = end_of-next (high_of first) rest one

-- a patch isn't empty
pub low-before-high : (patch : Patch) → IsShaped patch → low_of patch < high_of patch
low-before-high patch shape =
    let some = span_least patch.table.level in
    let more : (patch.from + 1) * span patch.table.level ≤ (patch.from + patch.count) * span patch.table.level =
    mul-le-mul_right (span patch.table.level) (let n : patch.from + 1 ≤ patch.from + patch.count = omega (arith, shape.some) in n) in
    omega (arith, some, more)

pub patch-ends : (patch : Patch) → IsShaped patch → high_of patch ≤ 2 ^ 64
patch-ends patch shape =
    let most : (patch.from + patch.count) * span patch.table.level ≤ 512 * span patch.table.level = mul-le-mul_right (span patch.table.level) shape.slots in
    omega (arith, most, shape.walkable.ends)

-- patches that ascend from an address on
abbrev Follow : ℕ → List Patch → Type 0
Follow edge [] = Unit {0}
Follow edge (one ∷ rest) = (edge ≤ low_of one) × Follow (high_of one) rest

follow-ascending : (one : Patch) (rest : List Patch) → AreSeparate (one ∷ rest) → Follow (high_of one) rest
follow-ascending one [] ascending = tt
follow-ascending one (two ∷ rest) ascending = (ascending.0, follow-ascending two rest ascending.1)

pub follow-start : (patches : List Patch) → AreSeparate patches → Follow (patches_start patches) patches
follow-start [] ascending = tt
follow-start (one ∷ rest) ascending = (omega arith, follow-ascending one rest ascending)

-- all end where the last one does, or before
follow-rest : (edge : ℕ) (some more : List Patch) → Follow edge (some ++ more) → Follow (patches_end edge some) more
follow-rest edge [] more follow = follow
follow-rest edge (one ∷ some) more follow = follow-rest (high_of one) some more follow.1

follow-done : (edge : ℕ) (some more : List Patch) → Follow edge (some ++ more) → Follow edge some
follow-done edge [] more follow = tt
follow-done edge (one ∷ some) more follow = (follow.0, follow-done (high_of one) some more follow.1)

follow-low : (edge : ℕ) (some : List Patch) → AreShaped some → Follow edge some → edge ≤ patches_end edge some
follow-low edge [] shapes follow = omega arith
follow-low edge (one ∷ rest) shapes follow =
    let some = low-before-high one (shapes one (inl refl)) in
    let later = follow-low (high_of one) rest (λ patch is. shapes patch (inr is)) follow.1 in
    omega (arith, follow.0)

follow-high : (edge : ℕ) (some : List Patch) → AreShaped some → Follow edge some → (patch : Patch) → IsIn patch some → high_of patch ≤ patches_end edge some
follow-high edge [] shapes follow patch is = absurd is
follow-high edge (one ∷ rest) shapes follow patch (inl same) =
    let later = follow-low (high_of one) rest (λ other is. shapes other (inr is)) follow.1 in
    let at = ap high_of same in
    omega (arith, later, at)
follow-high edge (one ∷ rest) shapes follow patch (inr is) = follow-high (high_of one) rest (λ other is. shapes other (inr is)) follow.1 patch is

module _ (memory : Memory) (settings : Settings) where
  pub uses-append : (some more : List Patch) → uses_in_patches memory settings (some ++ more) ≡ uses_in_patches memory settings some ++ uses_in_patches memory settings more
  uses-append [] more = refl
  uses-append (one ∷ some) more =
      ap (λ (rest : List TableUse). uses_in_patch memory settings one ++ rest) (uses-append some more)
      ∙ append-assoc (uses_in_patch memory settings one) (uses_in_patches memory settings some) (uses_in_patches memory settings more)

  leaves-append : (some more : List Patch)
      → length (leaves_in_patches memory settings (some ++ more)) ≡ length (leaves_in_patches memory settings some) + length (leaves_in_patches memory settings more)
  leaves-append [] more = omega arith
  leaves-append (one ∷ some) more =
      let whole = length-append (leaves_in_patch memory settings one) (leaves_in_patches memory settings (some ++ more)) in
      let part = length-append (leaves_in_patch memory settings one) (leaves_in_patches memory settings some) in
      omega (arith, whole, part, leaves-append some more)

  pub uses-next : (some : List Patch) (one : Patch) → uses_in_patches memory settings (some ++ one ∷ []) ≡ uses_in_patches memory settings some ++ uses_in_patch memory settings one
  uses-next some one =
      uses-append some (one ∷ []) ∙ ap (λ (it : List TableUse). uses_in_patches memory settings some ++ it) (append-nil (uses_in_patch memory settings one))

  uses-many : (some : List Patch) (one : Patch)
      → length (uses_in_patches memory settings (some ++ one ∷ [])) ≡ length (uses_in_patches memory settings some) + length (uses_in_patch memory settings one)
  uses-many some one = ap length (uses-next some one) ∙ length-append (uses_in_patches memory settings some) (uses_in_patch memory settings one)

  leaves-many : (some : List Patch) (one : Patch)
      → length (leaves_in_patches memory settings (some ++ one ∷ [])) ≡ length (leaves_in_patches memory settings some) + length (leaves_in_patch memory settings one)
  leaves-many some one =
      let last = ap length (append-nil (leaves_in_patch memory settings one)) in
      omega (arith, leaves-append some (one ∷ []), last)

  -- all patches have no fewer than those that are done and the next one
  uses-least : (patches : List Patch) (i : ℕ) (patch : Patch) → Done patches i patch
      → length (uses_in_patches memory settings (take i patches)) + length (uses_in_patch memory settings patch) ≤ length (uses_in_patches memory settings patches)
  uses-least patches i patch at =
      let whole : length (uses_in_patches memory settings (take i patches ++ drop i patches)) ≡ length (uses_in_patches memory settings patches) =
      ap (λ (it : List Patch). length (uses_in_patches memory settings it)) (take-append-drop i patches) in
      let parts = ap length (uses-append (take i patches) (drop i patches)) in
      let sum = length-append (uses_in_patches memory settings (take i patches)) (uses_in_patches memory settings (drop i patches)) in
      let rest : length (uses_in_patches memory settings (drop i patches)) ≡ length (uses_in_patch memory settings patch ++ uses_in_patches memory settings (drop (i + 1) patches)) =
      ap (λ (it : List Patch). length (uses_in_patches memory settings it)) at.after in
      omega (arith, whole, parts, sum, rest, length-append (uses_in_patch memory settings patch) (uses_in_patches memory settings (drop (i + 1) patches)))

  leaves-least : (patches : List Patch) (i : ℕ) (patch : Patch) → Done patches i patch
      → length (leaves_in_patches memory settings (take i patches)) + length (leaves_in_patch memory settings patch) ≤ length (leaves_in_patches memory settings patches)
  leaves-least patches i patch at =
      let whole : length (leaves_in_patches memory settings (take i patches ++ drop i patches)) ≡ length (leaves_in_patches memory settings patches) =
      ap (λ (it : List Patch). length (leaves_in_patches memory settings it)) (take-append-drop i patches) in
      let parts = leaves-append (take i patches) (drop i patches) in
      let rest : length (leaves_in_patches memory settings (drop i patches)) ≡ length (leaves_in_patch memory settings patch ++ leaves_in_patches memory settings (drop (i + 1) patches)) =
      ap (λ (it : List Patch). length (leaves_in_patches memory settings it)) at.after in
      omega (arith, whole, parts, rest, length-append (leaves_in_patch memory settings patch) (leaves_in_patches memory settings (drop (i + 1) patches)))

  -- what is found in patches begins before the last one ends
  found-before : (patches : List Patch) (edge : ℕ) → ((patch : Patch) → IsIn patch patches → high_of patch ≤ edge) → (table : TableUse)
      → IsIn table (uses_in_patches memory settings patches) → table.prefix < edge
  found-before [] edge ends table is = absurd is
  found-before (one ∷ rest) edge ends table is = elim (in-append (uses_in_patch memory settings one) (uses_in_patches memory settings rest) table is) [
    | inl here ↦
        let range = uses_in-range memory settings one.table.level one.table.frame one.table.prefix one.table.bits one.from one.count table here in
        omega (arith, range.before, ends one (inl refl))
    | inr later ↦ found-before rest edge (λ patch is. ends patch (inr is)) table later
  ]

entries-append : (some more : List Patch) → entries_of (some ++ more) ≡ entries_of some + entries_of more
entries-append [] more = omega arith
entries-append (one ∷ some) more = omega (arith, entries-append some more)

entries-least : (patches : List Patch) (i : ℕ) (patch : Patch) → Done patches i patch → entries_of (take i patches) + patch.count ≤ entries_of patches
entries-least patches i patch at =
    let whole : entries_of (take i patches ++ drop i patches) ≡ entries_of patches = ap entries_of (take-append-drop i patches) in
    let rest : entries_of (drop i patches) ≡ patch.count + entries_of (drop (i + 1) patches) = ap entries_of at.after in
    omega (arith, whole, entries-append (take i patches) (drop i patches), rest)

pub entries-next : (some : List Patch) (one : Patch) → entries_of (some ++ one ∷ []) ≡ entries_of some + one.count
entries-next some one = omega (arith, entries-append some (one ∷ []))

pub first-shape : (patches : List Patch) (d : Patch) → 1 ≤ length patches → AreShaped patches → IsShaped (get_or patches 0 d)
first-shape [] d some shapes = absurd (omega (arith, some))
first-shape (one ∷ rest) d some shapes = shapes one (inl refl)

pub start-first : (patches : List Patch) (d : Patch) → 1 ≤ length patches → low_of (get_or patches 0 d) ≡ patches_start patches
start-first [] d some = absurd (omega (arith, some))
start-first (one ∷ rest) d some = refl

-- the patches before are walked
pub record IsPassing (memory : Memory) (settings : Settings) (patches : List Patch) (i next : ℕ) (other : Mapping) (start now : PartialSpace)
    (pages : List ℕ) : Type 0 where
  pub walked : ArePatchesWalked memory settings (take i patches) (patches_start patches) (patches_end (patches_start patches) (take i patches)) other start now pages
  pub next_is : i < length patches → next ≡ patches_end (patches_start patches) (take i patches)

module _ (memory : Memory) (settings : Settings) (patches : List Patch) (other : Mapping) (start : PartialSpace) (shapes : AreShaped patches) (ascending : AreSeparate patches) where
  pub passing-begins : (next : ℕ) (pages : List ℕ) → start.regions ≡ [] → next ≡ patches_start patches → pages ≡ []
      → IsPassing memory settings patches 0 next other start start pages
  passing-begins next pages none is empty = record {
    walked = record {
      inside = λ patch is_in. absurd is_in;
      between = λ x from before. absurd (omega (arith, from, before));
      outside = λ x out. ap (λ (it : List Region). target_at it x) none;
      uses = omega arith;
      leaves = omega arith;
      joined = joined-none memory settings [] start.index start.index refl refl;
      pages_are = empty;
    };
    next_is = λ within. is;
  }

  module _ (i next : ℕ) (now : PartialSpace) (pages : List ℕ) (passing : IsPassing memory settings patches i next other start now pages) where
    pub passing-ends : length patches ≤ i → ArePatchesWalked memory settings patches (patches_start patches) (patches_end (patches_start patches) patches) other start now pages
    passing-ends all =
        subst (λ (it : List Patch). ArePatchesWalked memory settings it (patches_start patches) (patches_end (patches_start patches) it) other start now pages)
        (take_all i patches all) passing.walked

    module _ (patch : Patch) (within : i < length patches) (at : Done patches i patch) where
      follow : Follow (patches_end (patches_start patches) (take i patches)) (patch ∷ drop (i + 1) patches)
      follow =
          follow-rest (patches_start patches) (take i patches) (patch ∷ drop (i + 1) patches)
          (subst (λ (it : List Patch). Follow (patches_start patches) (take i patches ++ it)) at.after
          (subst (λ (it : List Patch). Follow (patches_start patches) it) (sym (take-append-drop i patches)) (follow-start patches ascending)))

      done-shapes : AreShaped (take i patches)
      done-shapes one is = shapes one (in-take patches i one is)

      done-follow : Follow (patches_start patches) (take i patches)
      done-follow = follow-done (patches_start patches) (take i patches) (drop i patches)
          (subst (λ (it : List Patch). Follow (patches_start patches) it) (sym (take-append-drop i patches)) (follow-start patches ascending))

      pub shape-next : IsShaped patch
      shape-next = shapes patch (done-in patches i patch at)

      done-ends : (one : Patch) → IsIn one (take i patches) → high_of one ≤ next
      done-ends one is =
          subst (λ (n : ℕ). high_of one ≤ n) (sym (passing.next_is within)) (follow-high (patches_start patches) (take i patches) done-shapes done-follow one is)

      pub before-next : next ≤ low_of patch
      before-next = omega (arith, passing.next_is within, follow.0)

      pub after-start : patches_start patches ≤ next
      after-start = omega (arith, passing.next_is within, follow-low (patches_start patches) (take i patches) done-shapes done-follow)

      pub clear-from : (x : ℕ) → next ≤ x → target_at now.regions x ≡ None
      clear-from x from = passing.walked.outside x (inr (omega (arith, from, passing.next_is within)))

      pub fresh-at : AreFresh patches start.index → IsFresh patch.table.level (low_of patch) (high_of patch) now.index
      fresh-at fresh = record {
        none = λ one is lower low high. elim (passing.walked.joined.each one is) [
          | inl was ↦ (fresh patch (done-in patches i patch at)).none one was lower low high
          | inr here ↦
              let before = found-before memory settings (take i patches) next done-ends one.table here.0 in
              omega (arith, before, before-next, low)
        ];
      }

      -- too many in this patch are too many in all of them
      pub passing-exceeds : ExceedsLimits (length (uses_in_patch memory settings patch)) (length (leaves_in_patch memory settings patch)) now
          → ExceedsLimits (length (uses_in_patches memory settings patches)) (length (leaves_in_patches memory settings patches)) start
      passing-exceeds (inl over) = inl (omega (arith, over, passing.walked.uses, uses-least memory settings patches i patch at))
      passing-exceeds (inr over) = inr (omega (arith, over, passing.walked.leaves, leaves-least memory settings patches i patch at))

      -- the steps up to this patch, of whatever came of it
      pub passing-cost : (first before after : ℕ) (new : PartialSpace) → before + 512 * start.uses ≤ first + entries_of (take i patches) + 512 * now.uses
          → after + 512 * now.uses ≤ before + patch.count + 512 * new.uses → new.uses ≤ now.uses + length (uses_in_patch memory settings patch)
          → after ≤ first + entries_of patches + 512 * length (uses_in_patches memory settings patches)
      passing-cost first before after new cost more few =
          omega (arith, cost, more, few, passing.walked.uses, uses-least memory settings patches i patch at, entries-least patches i patch at)

      pub cost-next : (first before after : ℕ) (new : PartialSpace) → before + 512 * start.uses ≤ first + entries_of (take i patches) + 512 * now.uses
          → after + 512 * now.uses ≤ before + patch.count + 512 * new.uses
          → after + 512 * start.uses ≤ first + entries_of (take (i + 1) patches) + 512 * new.uses
      cost-next first before after new cost more =
          let done : entries_of (take (i + 1) patches) ≡ entries_of (take i patches) + patch.count = ap entries_of at.before ∙ entries-next (take i patches) patch in
          omega (arith, cost, more, done)

      module _ (new : PartialSpace) (own last next' : ℕ) (pages' : List ℕ) (pages_are' : pages' ≡ pages ++ own ∷ []) (is : IsPatchWalked memory settings patch next other now new own)
          (ends : last + 1 ≡ high_of patch) (next_is' : next' ≡ (last + 1) % 2 ^ 64) where
        done-to : patches_end (patches_start patches) (take i patches ++ patch ∷ []) ≡ high_of patch
        done-to = end_of-next (patches_start patches) (take i patches) patch

        inside-next : (one : Patch) → IsIn one (take i patches ++ patch ∷ []) → (page : ℕ) → page % 4096 ≡ 0 → low_of one ≤ page → page < high_of one
            → target_at new.regions page ≡ target_from memory settings one.table.level one.table.frame one.table.bits page
        inside-next one is_in page whole low high = elim (in-append (take i patches) (patch ∷ []) one is_in) [
          | inl here ↦ is.outside page (inl (omega (arith, high, done-ends one here))) ∙ passing.walked.inside one here page whole low high
          | inr last_one ↦ elim last_one [
            | inl same ↦
                subst (λ (it : Patch). target_at new.regions page ≡ target_from memory settings it.table.level it.table.frame it.table.bits page) (sym same)
                (is.inside page whole (subst (λ (it : Patch). low_of it ≤ page) same low) (subst (λ (it : Patch). page < high_of it) same high))
            | inr never ↦ absurd never
          ]
        ]

        between-next : (x : ℕ) → patches_start patches ≤ x → x < high_of patch → (IsPatched (take i patches ++ patch ∷ []) x → ⊥)
            → target_at new.regions x ≡ other x
        between-next x from before not = elim (cases_lt x next) [
          | inl less ↦
              is.outside x (inl less)
              ∙ passing.walked.between x from (omega (arith, less, passing.next_is within))
              (λ patched. not (record { patch = patched.patch; is_in = append-left (take i patches) (patch ∷ []) patched.patch patched.is_in; low = patched.low; high = patched.high }))
          | inr after ↦ elim (cases_lt x (low_of patch)) [
            | inl gap ↦ is.before x after gap
            | inr in_it ↦
                absurd (not (record { patch = patch; is_in = append-right (take i patches) (patch ∷ []) patch (inl refl); low = in_it; high = before }))
          ]
        ]

        outside-next : (x : ℕ) → ((x < patches_start patches) ⊎ (high_of patch ≤ x)) → target_at new.regions x ≡ None
        outside-next x (inl before) = is.outside x (inl (omega (arith, before, after-start))) ∙ passing.walked.outside x (inl before)
        outside-next x (inr after) =
            let long = low-before-high patch shape-next in
            is.outside x (inr after) ∙ passing.walked.outside x (inr (omega (arith, after, long, before-next, passing.next_is within)))

        joined-next : IsJoined memory settings (uses_in_patches memory settings (take i patches ++ patch ∷ [])) start.index new.index
        joined-next =
            subst (λ (it : List TableUse). IsJoined memory settings it start.index new.index) (sym (uses-next memory settings (take i patches) patch))
            (joined-both memory settings (uses_in_patches memory settings (take i patches)) (uses_in_patch memory settings patch) start.index now.index new.index
            passing.walked.joined is.index.indexed.joined)

        pages-next : pages ++ own ∷ [] ≡ map (λ (it : Patch). pages_in_patch memory settings it) (take i patches ++ patch ∷ [])
        pages-next =
            ap (λ (it : List ℕ). it ++ own ∷ []) passing.walked.pages_are
            ∙ (ap (λ (n : ℕ). map (λ (it : Patch). pages_in_patch memory settings it) (take i patches) ++ n ∷ []) is.index.pages_are
            ∙ sym (map-append (λ (it : Patch). pages_in_patch memory settings it) (take i patches) (patch ∷ [])))

        -- one patch more
        walked-next : ArePatchesWalked memory settings (take i patches ++ patch ∷ []) (patches_start patches) (high_of patch) other start new (pages ++ own ∷ [])
        walked-next = record {
          inside = inside-next;
          between = between-next;
          outside = outside-next;
          uses = omega (arith, is.uses, passing.walked.uses, uses-many memory settings (take i patches) patch);
          leaves = omega (arith, is.leaves, passing.walked.leaves, leaves-many memory settings (take i patches) patch);
          joined = joined-next;
          pages_are = pages-next;
        }

        ends-within : i + 1 < length patches → high_of patch < 2 ^ 64
        ends-within more =
            let rest = drop_more patches (i + 1) patch more in
            let next_one = get_or patches (i + 1) patch in
            let after : Follow (high_of patch) (get_or patches (i + 1) patch ∷ drop (i + 1 + 1) patches) = subst (λ (it : List Patch). Follow (high_of patch) it) rest follow.1 in
            let is_in : IsIn (get_or patches (i + 1) patch) patches =
            in-drop patches (i + 1) (get_or patches (i + 1) patch) (subst (λ (it : List Patch). IsIn (get_or patches (i + 1) patch) it) (sym rest) (inl refl)) in
            let shape = shapes (get_or patches (i + 1) patch) is_in in
            let long = low-before-high (get_or patches (i + 1) patch) shape in
            omega (arith, after.0, long, patch-ends (get_or patches (i + 1) patch) shape)

        pub passing-next : IsPassing memory settings patches (i + 1) next' other start new pages'
        passing-next =
            let to : patches_end (patches_start patches) (take (i + 1) patches) ≡ high_of patch = ap (λ (it : List Patch). patches_end (patches_start patches) it) at.before ∙ done-to in
            record {
              walked =
                  subst (λ (it : List ℕ). ArePatchesWalked memory settings (take (i + 1) patches) (patches_start patches) (patches_end (patches_start patches) (take (i + 1) patches)) other start new it)
                  (sym pages_are')
                  (subst (λ (it : List Patch). ArePatchesWalked memory settings it (patches_start patches) (patches_end (patches_start patches) it) other start new (pages ++ own ∷ [])) (sym at.before)
                  (subst (λ (n : ℕ). ArePatchesWalked memory settings (take i patches ++ patch ∷ []) (patches_start patches) n other start new (pages ++ own ∷ [])) (sym done-to) walked-next));
              next_is = λ more. omega (arith, next_is', ends, ends-within more, to);
            }
