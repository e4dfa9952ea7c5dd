-- The ranges that the entries of a table serve, by the length of one.
use Rattle.std.proofs.Common.{◌≡◌, ℕ, suc, ◌+◌, ◌-◌, ◌*◌, ◌/◌, ◌%◌, ◌<◌, ◌≤◌, inl, inr, arith, ap, ◌∙◌}
use Rattle.std.proofs.lemmas.Bool.{cases_lt}
use Rattle.std.proofs.lemmas.Nat.{div-mul-add, mod-mul-add, pow-add, div-add-mod'}
use Rattle.std.proofs.Math.Nat.{mul-le-mul_right}
use Rattle.std.proofs.Math.Pow.{pow_mono}
use Rattle.paging_model.specs.LinearAddress.{span}
use Rattle.paging_laws.proofs.Serving.{whole_is_one}

-- an entry serves 512 times what one of the level below serves
pub span_suc : (lower : ℕ) → 1 ≤ lower → span (suc lower) ≡ 512 * span lower
span_suc lower some =
    let e : 12 + 9 * (suc lower - 1) ≡ 9 + (12 + 9 * (lower - 1)) = omega arith in
    rw e (pow-add 2 9 (12 + 9 * (lower - 1)))

pub span_least : (level : ℕ) → 4096 ≤ span level
span_least level = pow_mono {i = 12} {j = 12 + 9 * (level - 1)} (omega arith)

pub slot_whole : (w prefix i : ℕ) → 0 < w → prefix % (512 * w) ≡ 0 → (prefix + i * w) % w ≡ 0
slot_whole w prefix i some whole =
    let is : prefix ≡ prefix / (512 * w) * (512 * w) = omega (arith, div-add-mod' prefix (512 * w)) in
    let e : prefix + i * w ≡ (prefix / (512 * w) * 512 + i) * w + 0 = omega arith in
    ap (λ z. z % w) e ∙ mod-mul-add (prefix / (512 * w) * 512 + i) w 0 some

slot_at : (w k i d : ℕ) → d < w → i < 512 → ((k * 512 + i) * w + d) / w % 512 ≡ i
slot_at w k i d less within = rw (div-mul-add (k * 512 + i) w d less) (grind arith)

-- an address of the range of entry i selects entry i
pub slot_of : (w prefix i y : ℕ) → prefix % (512 * w) ≡ 0 → i < 512 → prefix + i * w ≤ y → y < prefix + i * w + w → y / w % 512 ≡ i
slot_of w prefix i y whole within low high =
    let is : prefix ≡ prefix / (512 * w) * (512 * w) = omega (arith, div-add-mod' prefix (512 * w)) in
    let less : y - (prefix + i * w) < w = omega arith in
    let e : y ≡ (prefix / (512 * w) * 512 + i) * w + (y - (prefix + i * w)) = omega arith in
    ap (λ z. z / w % 512) e ∙ slot_at w (prefix / (512 * w)) i (y - (prefix + i * w)) less within

-- the range of entry i ends no later than that of a later one begins
pub slot_ends : (w prefix i j : ℕ) → i < j → prefix + i * w + w ≤ prefix + j * w
slot_ends w prefix i j less = omega (arith, mul-le-mul_right w (let next : i + 1 ≤ j = omega arith in next))

pub slot_starts : (w prefix i j : ℕ) → i ≤ j → prefix + i * w ≤ prefix + j * w
slot_starts w prefix i j least = omega (arith, mul-le-mul_right w least)

-- the first address of a range is its only multiple of the range's length
pub first_is : (w first y : ℕ) → 0 < w → first % w ≡ 0 → first ≤ y → y < first + w → y % w ≡ 0 → y ≡ first
first_is w first y some whole low high whole' =
    let is : first ≡ first / w * w = omega (arith, div-add-mod' first w) in
    let e : y ≡ first / w * w + (y - first) = omega arith in
    let same : y / w ≡ first / w = ap (λ (n : ℕ). n / w) e ∙ div-mul-add (first / w) w (y - first) (omega arith) in
    whole_is_one y first w same whole' whole

-- the entry whose range an address lies in
pub record SlotFor (w prefix from count y : ℕ) : Type 0 where
  pub number : ℕ
  pub least : from ≤ number
  pub less : number < from + count
  pub low : prefix + number * w ≤ y
  pub high : y < prefix + number * w + w

slot_for : (w prefix from count y : ℕ) → 0 < w → prefix + from * w ≤ y → y < prefix + (from + count) * w → SlotFor w prefix from count y
slot_for w prefix from count y some low high =
    let is = div-add-mod' (y - prefix) w in
    let small : (y - prefix) % w < w = omega arith in
    record {
      number = (y - prefix) / w;
      least = elim (cases_lt ((y - prefix) / w) from) [
        | inl less ↦
            let up : (y - prefix) / w + 1 ≤ from = omega arith in
            absurd (let far : ((y - prefix) / w + 1) * w ≤ from * w = mul-le-mul_right w up in omega arith)
        | inr least ↦ least
      ];
      less = elim (cases_lt ((y - prefix) / w) (from + count)) [
        | inl less ↦ less
        | inr more ↦ absurd (let far : (from + count) * w ≤ (y - prefix) / w * w = mul-le-mul_right w more in omega arith)
      ];
      low = omega arith;
      high = omega arith;
    }

pub number_for : (level prefix from count y : ℕ) → prefix + from * span level ≤ y → y < prefix + (from + count) * span level
    → SlotFor (span level) prefix from count y
number_for level prefix from count y low high = slot_for (span level) prefix from count y (omega (arith, span_least level)) low high
