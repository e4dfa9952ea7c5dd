-- Where the range of a table lies, against those of the patches.
use Rattle.std.proofs.Common.{◌≡◌, ℕ, suc, ◌+◌, ◌-◌, ◌*◌, ◌/◌, ◌%◌, ◌^◌, ◌<◌, ◌≤◌, inl, inr, sym, ap, ◌∙◌, subst, arith}
use Rattle.std.proofs.lemmas.Bool.{cases_lt}
use Rattle.std.proofs.lemmas.Nat.{div-mul-add, div-add-mod', shr-shr}
use Rattle.std.proofs.Math.Nat.{mul-le-mul_right}
use Rattle.paging_model.specs.LinearAddress.{span}
use Rattle.paging_laws.proofs.Serving.{whole_is_one}
use Rattle.paging_laws.proofs.SlotRanges.{span_suc, slot_ends}

-- the addresses of one range
same_range : (w first x : ℕ) → first % w ≡ 0 → first ≤ x → x < first + w → x / w ≡ first / w
same_range w first x whole low high =
    let is : first ≡ first / w * w = omega (arith, div-add-mod' first w) in
    let e : x ≡ first / w * w + (x - first) = omega arith in
    ap (λ (n : ℕ). n / w) e ∙ div-mul-add (first / w) w (x - first) (omega arith)

same_high_bits : (x y k i j : ℕ) → k + i ≡ j → x / 2 ^ k ≡ y / 2 ^ k → x / 2 ^ j ≡ y / 2 ^ j
same_high_bits x y k i j is same =
    subst (λ (n : ℕ). x / 2 ^ n ≡ y / 2 ^ n) is (sym (shr-shr x k i) ∙ (ap (λ n. n / 2 ^ i) same ∙ shr-shr y k i))

-- one range of a level lies in one range of each level above
pub same_span-above : (lower level x y : ℕ) → lower < level → x / span (lower + 1) ≡ y / span (lower + 1) → x / span level ≡ y / span level
same_span-above lower level x y less same =
    same_high_bits x y (12 + 9 * (lower + 1 - 1)) (9 * (level - (lower + 1))) (12 + 9 * (level - 1)) (omega arith) same

-- a table serves one range of the level above
pub table_range : (level prefix x : ℕ) → 1 ≤ level → prefix % (512 * span level) ≡ 0 → prefix ≤ x → x < prefix + 512 * span level
    → x / span (level + 1) ≡ prefix / span (level + 1)
table_range level prefix x some whole low high =
    let next : suc level ≡ level + 1 = omega arith in
    let longer : 512 * span level ≡ span (level + 1) = sym (subst (λ (n : ℕ). span n ≡ 512 * span level) next (span_suc level some)) in
    subst (λ (w : ℕ). x / w ≡ prefix / w) longer (same_range (512 * span level) prefix x whole low high)

-- two tables of a level that serve one address serve one range
pub same_table_range : (w one other x : ℕ) → one % (512 * w) ≡ 0 → other % (512 * w) ≡ 0
    → one ≤ x → x < one + 512 * w → other ≤ x → x < other + 512 * w → one ≡ other
same_table_range w one other x whole whole' low high low' high' =
    whole_is_one one other (512 * w) (sym (same_range (512 * w) one x whole low high) ∙ same_range (512 * w) other x whole' low' high') whole whole'

-- a range from a multiple of its length on has all addresses of one range, or none
pub from_whole : (w first x y : ℕ) → 0 < w → first % w ≡ 0 → x / w ≡ y / w → first ≤ x → first ≤ y
from_whole w first x y some whole same low =
    let is : first ≡ first / w * w = omega (arith, div-add-mod' first w) in
    let x_is : x ≡ x / w * w + x % w = omega (arith, div-add-mod' x w) in
    let y_is : y ≡ y / w * w + y % w = omega (arith, div-add-mod' y w) in
    let starts : x / w * w ≡ y / w * w = ap (λ (n : ℕ). n * w) same in
    let small : x % w < w = omega arith in
    elim (cases_lt (y / w) (first / w)) [
      | inl less ↦
          let far : (y / w + 1) * w ≤ first / w * w = mul-le-mul_right w (let up : y / w + 1 ≤ first / w = omega arith in up) in
          absurd (omega arith)
      | inr more ↦ let near : first / w * w ≤ y / w * w = mul-le-mul_right w more in omega arith
    ]

pub before_whole : (w last x y : ℕ) → 0 < w → last % w ≡ 0 → x / w ≡ y / w → x < last → y < last
before_whole w last x y some whole same high = elim (cases_lt y last) [
  | inl less ↦ less
  | inr more ↦ absurd (let far = from_whole w last y x some whole (sym same) more in omega arith)
]

-- an entry whose range begins among those of some entries is one of them
pub number_among : (w prefix from end i : ℕ) → 0 < w → prefix + from * w ≤ prefix + i * w → prefix + i * w < prefix + end * w
    → (from ≤ i) × (i < end)
number_among w prefix from end i some low high = (
  elim (cases_lt i from) [
    | inl less ↦ absurd (let far = slot_ends w prefix i from less in omega arith)
    | inr least ↦ least
  ],
  elim (cases_lt i end) [
    | inl less ↦ less
    | inr more ↦ absurd (let far : end * w ≤ i * w = mul-le-mul_right w more in omega arith)
  ],
)
