-- The patches of a frame stay what they are when they are sorted.
use Rattle.std.proofs.Common.{◌≡◌, ℕ, ◌+◌, ◌-◌, ◌*◌, ◌/◌, ◌%◌, ◌^◌, ◌<◌, ◌≤◌, ◌⊎◌, inl, inr, List, [], ◌∷◌, length, get_or, take, refl, sym, ap, ◌∙◌, subst, lit≤, arith}
use Rattle.std.specs.Prelude.{All, ◌&&◌, if◌then◌else◌, max, nat_le}
use Rattle.std.specs.List.{sum_by}
use Rattle.std.specs.List.Sorted.{IsNonDecreasingBy, IsPermutation}
use Rattle.std.proofs.lemmas.Bool.{cases_lt}
use Rattle.std.proofs.lemmas.Bool.Decides.{nat_tests}
use Rattle.std.proofs.lemmas.List.{take_more}
use Rattle.std.proofs.lemmas.List.Elements.{All-cons, All-more, All-nil, All-tail, All-weaker}
use Rattle.std.proofs.lemmas.List.Sorted.{All-permutation, IsNonDecreasingBy-drop, IsNonDecreasingBy-push, IsPermutation-sym, sum_by-IsPermutation}
use Rattle.std.proofs.lemmas.List.Sums.{sum_by-cons}
use Rattle.std.proofs.lemmas.Nat.{div-add-mod', pow-add}
use Rattle.std.proofs.Math.Nat.{mul-le-mul_right}
use Rattle.std.proofs.Math.Pow.{pow_mono}
use Rattle.paging_model.specs.Counting.{AreDistinct, IsIn}
use Rattle.paging_model.specs.LinearAddress.{span}
use Rattle.paging_model.specs.declared.registers.Settings.{Settings}
use Rattle.paging_model.specs.declared.spaces.TableUse.{TableUse}
use Rattle.paging_laws.specs.SpaceParts.{upper_prefix}
use Rattle.paging_laws.proofs.SlotRanges.{span_least}
use Rattle.frame_index.specs.declared.counted_use.CountedUse.{CountedUse}
use Rattle.kept_laws.specs.Patches.{low_of}
use Rattle.kept_laws.specs.declared.patches.Patch.{Patch}
use Rattle.plan_laws.specs.Plans.{ArePlanned, AreSorted, IsPartOf, lower_half, lower_part, upper_half}
use Rattle.plan_laws.proofs.PlanPatches.{max-is}
use Rattle.plan_laws.proofs.WrittenSlots.{longer}
use Rattle.space_map.specs.FramePatches.{ArePatchesOf, start_key}
use Rattle.space_map.specs.PatchWalks.{AreOfOwnUses, index_tables}
use Rattle.space_map.specs.ServingTables.{AreServing, IsServing}
use Rattle.space_map.proofs.CoveredUses.{top-most}
use Rattle.space_map.proofs.IndexTables.{use-of_table}

-- a range that begins below a multiple of its length ends there at the latest
range_ends : (first w all : ℕ) → first % w ≡ 0 → first < all * w → first + w ≤ all * w
range_ends first w all whole before =
    let is : first ≡ first / w * w = omega (arith, div-add-mod' first w) in
    elim (cases_lt (first / w) all) [
      | inl less ↦ omega (arith, mul-le-mul_right w (let next : first / w + 1 ≤ all = omega arith in next))
      | inr more ↦ absurd (let far : all * w ≤ first / w * w = mul-le-mul_right w more in omega arith)
    ]

power_ends : (first k : ℕ) → k ≤ 64 → first % 2 ^ k ≡ 0 → first < 2 ^ 64 → first + 2 ^ k ≤ 2 ^ 64
power_ends first k few whole before =
    let split : 2 ^ 64 ≡ 2 ^ (64 - k) * 2 ^ k = ap (λ (n : ℕ). 2 ^ n) (let n : 64 ≡ 64 - k + k = omega arith in n) ∙ pow-add 2 (64 - k) k in
    subst (λ (n : ℕ). first + 2 ^ k ≤ n) (sym split)
    (range_ends first (2 ^ k) (2 ^ (64 - k)) whole (subst (λ (n : ℕ). first < n) split before))

-- a patch whose first address is one
record HasStart (patch : Patch) : Type 0 where
  least : 1 ≤ patch.table.level
  most : patch.table.level ≤ 5
  low : low_of patch < 2 ^ 64

key-low : (level prefix offset : ℕ) → 1 ≤ level → level ≤ 5 → prefix + offset < 2 ^ 64
    → (if (nat_le 1 level && nat_le level 5) then ((prefix + offset % 2 ^ 64) % 2 ^ 64) else 0) ≡ prefix + offset
key-low level prefix offset least most less =
    let small : offset % 2 ^ 64 ≡ offset = omega arith in
    let sum : (prefix + offset % 2 ^ 64) % 2 ^ 64 ≡ prefix + offset = omega arith in
    grind (arith, nat_tests)

start-low : (patch : Patch) → HasStart patch → start_key patch ≡ low_of patch
start-low patch has = key-low patch.table.level patch.table.prefix (patch.from * span patch.table.level) has.least has.most has.low

offset-below : (prefix w i : ℕ) → 0 < w → i < 512 → prefix + 512 * w ≤ 2 ^ 64 → prefix + i * w < 2 ^ 64
offset-below prefix w i some within room =
    let less : (i + 1) * w ≤ 512 * w = mul-le-mul_right w (let next : i + 1 ≤ 512 = omega arith in next) in omega (arith, less, some, room)

span_room : (level : ℕ) → level ≤ 5 → 512 * span level ≤ 2 ^ 64
span_room level most =
    let small : span level ≤ 2 ^ 48 = pow_mono {i = 12 + 9 * (level - 1)} {j = 48} (omega arith) in omega (arith, small)

-- each part of a use has a first address
part-start : (settings : Settings) (first last : ℕ) (table : TableUse) (patch : Patch) → first ≤ last → last < 512
    → IsServing settings table.level table.prefix → IsPartOf settings first last table patch → HasStart patch
part-start settings first last table patch order few serving (lower_part less is) =
    let most = top-most settings in
    let range = serving.3 less in
    let ends = power_ends table.prefix (12 + 9 * (table.level + 1 - 1)) (omega (arith, less, most)) range.1 range.0 in
    let room : table.prefix + 512 * span table.level ≤ 2 ^ 64 = subst (λ (w : ℕ). table.prefix + w ≤ 2 ^ 64) (longer table.level serving.0) ends in
    subst HasStart (sym is) (record {
      least = serving.0;
      most = omega (arith, less, most);
      low = offset-below table.prefix (span table.level) first (omega (arith, span_least table.level)) (omega (arith, order, few)) room;
    })
part-start settings first last table patch order few serving (lower_half top some is) =
    let most : table.level ≤ 5 = omega (arith, top-most settings, top) in
    subst HasStart (sym is) (record {
      least = serving.0;
      most = most;
      low = offset-below 0 (span table.level) first (omega (arith, span_least table.level)) (omega (arith, order, few)) (omega (arith, span_room table.level most));
    })
part-start settings first last table patch order few serving (upper_half top some is) =
    let most : table.level ≤ 5 = omega (arith, top-most settings, top) in
    let begin = max-is first 256 in
    let within : max first 256 < 512 = elim begin.2 [ inl one ↦ omega (arith, one, order, few) | inr other ↦ omega (arith, other) ] in
    let high : upper_prefix settings ≡ 2 ^ 64 - 512 * span table.level = ap (λ (n : ℕ). 2 ^ 64 - 512 * span n) (sym top) in
    subst HasStart (sym is) (record {
      least = serving.0;
      most = most;
      low = offset-below (upper_prefix settings) (span table.level) (max first 256) (omega (arith, span_least table.level)) within
          (omega (arith, high, span_room table.level most));
    })

-- patches sorted by their keys are sorted by their first addresses
sorted-by : (patches : List Patch) → ((patch : Patch) → IsIn patch patches → HasStart patch) → IsNonDecreasingBy start_key patches → AreSorted patches
sorted-by [] starts sorted = tt
sorted-by (one ∷ []) starts sorted = tt
sorted-by (one ∷ two ∷ rest) starts sorted =
    let keys : start_key one ≤ start_key two = sorted 0 1 one (omega arith) (omega arith) in (
      subst (λ (n : ℕ). n ≤ low_of two) (start-low one (starts one (inl refl)))
          (subst (λ (n : ℕ). start_key one ≤ n) (start-low two (starts two (inr (inl refl)))) keys),
      sorted-by (two ∷ rest) (λ patch is. starts patch (inr is)) (IsNonDecreasingBy-drop start_key 1 (one ∷ two ∷ rest) sorted),
    )

-- one patch more is sorted
pub keys-next : (patches : List Patch) (i : ℕ) (d : Patch) (before start : ℕ) → i < length patches → IsNonDecreasingBy start_key (take i patches)
    → All (λ (it : Patch). start_key it ≤ before) (take i patches) → start ≡ start_key (get_or patches i d) → before ≤ start
    → IsNonDecreasingBy start_key (take (i + 1) patches) × All (λ (it : Patch). start_key it ≤ start) (take (i + 1) patches)
keys-next patches i d before start within sorted all is least =
    let more : All (λ (it : Patch). start_key it ≤ start) (take i patches) =
    All-weaker (λ it. start_key it ≤ before) (λ it. start_key it ≤ start) (λ it less. omega (arith, less, least)) (take i patches) all in (
      subst (λ (it : List Patch). IsNonDecreasingBy start_key it) (sym (take_more patches i d within))
          (IsNonDecreasingBy-push start_key (take i patches) (get_or patches i d) sorted
          (λ d' some. omega (arith, more (length (take i patches) - 1) d' (omega (arith, some)), is))),
      All-more (λ (it : Patch). start_key it ≤ start) patches i d within more (omega (arith, is)),
    )

-- a thing stands in a list
all-in : {Thing : Type 0} (things : List Thing) → All (λ (it : Thing). IsIn it things) things
all-in [] = All-nil _
all-in (one ∷ rest) =
    All-cons (λ it. IsIn it (one ∷ rest)) one rest (inl refl)
    (All-weaker (λ it. IsIn it rest) (λ it. IsIn it (one ∷ rest)) (λ it is. inr is) rest (all-in rest))

from-all : {Thing : Type 0} (P : Thing → Type 0) (things : List Thing) → All P things → (thing : Thing) → IsIn thing things → P thing
from-all P [] all thing is = absurd is
from-all P (one ∷ rest) all thing (inl same) = subst P (sym same) (all 0 one (omega arith))
from-all P (one ∷ rest) all thing (inr is) = from-all P rest (All-tail P one rest all) thing is

in-permutation : {Thing : Type 0} (old new : List Thing) → IsPermutation old new → (thing : Thing) → IsIn thing new → IsIn thing old
in-permutation old new moved = from-all (λ it. IsIn it old) new (All-permutation (λ it. IsIn it old) old new moved (all-in old))

same-number : (m n : ℕ) → ((m ≡ n) ⊎ (m ≡ n → ⊥))
same-number m n = elim (cases_lt m n) [
  | inl less ↦ inr (λ is. omega (arith, less, is))
  | inr most ↦ elim (cases_lt n m) [ inl more ↦ inr (λ is. omega (arith, more, is)) | inr least ↦ inl (omega (arith, most, least)) ]
]

-- a patch is at a level and a prefix
abbrev AtPlace : ℕ → ℕ → Patch → Type 0
AtPlace level prefix patch = (patch.table.level ≡ level) × (patch.table.prefix ≡ prefix)

at-place : (level prefix : ℕ) (patch : Patch) → (AtPlace level prefix patch ⊎ (AtPlace level prefix patch → ⊥))
at-place level prefix patch = elim (same-number patch.table.level level) [
  | inl l ↦ elim (same-number patch.table.prefix prefix) [
    | inl p ↦ inl (l, p)
    | inr other ↦ inr (λ at. other at.1)
  ]
  | inr other ↦ inr (λ at. other at.0)
]

abbrev one_if : {A B : Type 0} → (A ⊎ B) → ℕ
one_if (inl is) = 1
one_if (inr never) = 0

one_if-yes : {A : Type 0} (test : A ⊎ (A → ⊥)) → A → one_if test ≡ 1
one_if-yes (inl it) is = refl
one_if-yes (inr never) is = absurd (never is)

one_if-no : {A : Type 0} (test : A ⊎ (A → ⊥)) → (A → ⊥) → one_if test ≡ 0
one_if-no (inl is) never = absurd (never is)
one_if-no (inr it) never = refl

module _ (level prefix : ℕ) where
  -- counts the patches of a place
  abbrev one_at : Patch → ℕ
  one_at patch = one_if (at-place level prefix patch)

  count-none : (patches : List Patch) → ((patch : Patch) → IsIn patch patches → AtPlace level prefix patch → ⊥) → sum_by one_at patches ≡ 0
  count-none [] never = refl
  count-none (one ∷ rest) never =
      let here = one_if-no (at-place level prefix one) (never one (inl refl)) in
      let more = count-none rest (λ patch is. never patch (inr is)) in
      omega (arith, sum_by-cons one_at one rest, here, more)

  count-own : (patches : List Patch) → AreOfOwnUses patches → sum_by one_at patches ≤ 1
  count-own [] own = lit≤ tt
  count-own (one ∷ rest) own =
      let sum = sum_by-cons one_at one rest in
      elim (at-place level prefix one) [
        | inl at ↦
            let here = one_if-yes (at-place level prefix one) at in
            let more = count-none rest (λ patch is there. own.0 patch is (there.0 ∙ sym at.0) (there.1 ∙ sym at.1)) in
            omega (arith, sum, here, more)
        | inr other ↦
            let here = one_if-no (at-place level prefix one) other in
            let more = count-own rest own.1 in
            omega (arith, sum, here, more)
      ]

  count-in : (patches : List Patch) (patch : Patch) → IsIn patch patches → AtPlace level prefix patch → 1 ≤ sum_by one_at patches
  count-in [] patch is at = absurd is
  count-in (one ∷ rest) patch (inl same) at =
      let here = one_if-yes (at-place level prefix one) (subst (λ (it : Patch). AtPlace level prefix it) same at) in
      omega (arith, sum_by-cons one_at one rest, here)
  count-in (one ∷ rest) patch (inr is) at =
      let more = count-in rest patch is at in omega (arith, sum_by-cons one_at one rest, more)

distinct-few : (patches : List Patch) → ((level prefix : ℕ) → sum_by (one_at level prefix) patches ≤ 1) → AreDistinct patches
distinct-few [] few = tt
distinct-few (one ∷ rest) few = (
  λ is.
      let here = one_if-yes (at-place one.table.level one.table.prefix one) (refl, refl) in
      let more = count-in one.table.level one.table.prefix rest one is (refl, refl) in
      omega (arith, few one.table.level one.table.prefix, sum_by-cons (one_at one.table.level one.table.prefix) one rest, here, more),
  distinct-few rest (λ level prefix. omega (arith, few level prefix, sum_by-cons (one_at level prefix) one rest)),
)

-- the patches of all uses of a frame, sorted
pub planned-sorted : (settings : Settings) (first last frame : ℕ) (index : List CountedUse) (old new : List Patch) → first ≤ last → last < 512
    → AreServing settings index → ArePatchesOf settings first last frame (index_tables index) (index_tables index) old → IsPermutation old new
    → IsNonDecreasingBy start_key new → ArePlanned settings first last frame (index_tables index) new
planned-sorted settings first last frame index old new order few serving are moved sorted = record {
  sorted = sorted-by new
      (λ patch is.
      let one = are.each patch (in-permutation old new moved patch is) in
      let counted_use = use-of_table index one.0 one.1 in
      part-start settings first last one.0 patch order few
      (subst (λ (it : TableUse). IsServing settings it.level it.prefix) counted_use.2 (serving counted_use.0 counted_use.1)) one.2.part)
      sorted;
  distinct = distinct-few new (λ level prefix.
      omega (arith, sum_by-IsPermutation (one_at level prefix) old new moved, count-own level prefix old are.own));
  each = λ patch is.
      let one = are.each patch (in-permutation old new moved patch is) in (one.0, one.1, one.2.is_frame, one.2.free, one.2.part);
  all = λ table patch is is_frame free part.
      in-permutation new old (IsPermutation-sym old new moved) patch
      (are.all table patch is (record { is_frame = is_frame; free = free; part = part }));
}
