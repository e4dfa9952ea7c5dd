-- The walks of the addresses that a use serves come to its table.
use Rattle.std.proofs.Common.{◌≡◌, ℕ, suc, ◌+◌, ◌-◌, ◌*◌, ◌/◌, ◌%◌, ◌^◌, ◌<◌, ◌≤◌, inl, inr, Bool, true, false, sym, ap, ◌∙◌, subst, arith}
use Rattle.std.specs.Prelude.{IsTrue, ◌==◌, ◌||◌, if◌then◌else◌}
use Rattle.std.proofs.lemmas.Bool.{cases_lt}
use Rattle.std.proofs.lemmas.Nat.{div-mul-add, div-add-mod', pow-add, shr-shr}
use Rattle.std.proofs.Math.Nat.{mul-le-mul_right}
use Rattle.paging_model.specs.Memory.{Memory}
use Rattle.paging_model.specs.LinearAddress.{span, is_canonical}
use Rattle.paging_model.specs.TableUses.{IsPrefix, IsUse}
use Rattle.paging_model.specs.Walking.{top_level}
use Rattle.paging_model.specs.declared.registers.Settings.{Settings}
use Rattle.paging_model.specs.declared.spaces.TableUse.{TableUse}
use Rattle.paging_laws.specs.ReachedSlots.{AreReached}
use Rattle.paging_laws.proofs.Reaching.{served_by_use}
use Rattle.paging_laws.proofs.SlotRanges.{span_suc}

-- a range that begins below a multiple of its length ends there at the latest
range_ends : (first w all : ℕ) → first % w ≡ 0 → first < all * w → first + w ≤ all * w
range_ends first w all whole before =
    let is : first ≡ first / w * w = omega (arith, div-add-mod' first w) in
    elim (cases_lt (first / w) all) [
      | inl less ↦ omega (arith, mul-le-mul_right w (let next : first / w + 1 ≤ all = omega arith in next))
      | inr more ↦ absurd (let far : all * w ≤ first / w * w = mul-le-mul_right w more in omega arith)
    ]

power_ends : (first k : ℕ) → k ≤ 64 → first % 2 ^ k ≡ 0 → first < 2 ^ 64 → first + 2 ^ k ≤ 2 ^ 64
power_ends first k few whole before =
    let split : 2 ^ 64 ≡ 2 ^ (64 - k) * 2 ^ k = ap (λ (n : ℕ). 2 ^ n) (let n : 64 ≡ 64 - k + k = omega arith in n) ∙ pow-add 2 (64 - k) k in
    subst (λ (n : ℕ). first + 2 ^ k ≤ n) (sym split)
    (range_ends first (2 ^ k) (2 ^ (64 - k)) whole (subst (λ (n : ℕ). first < n) split before))

same_range : (w first x : ℕ) → first % w ≡ 0 → first ≤ x → x < first + w → x / w ≡ first / w
same_range w first x whole low high =
    let is : first ≡ first / w * w = omega (arith, div-add-mod' first w) in
    let e : x ≡ first / w * w + (x - first) = omega arith in
    ap (λ (n : ℕ). n / w) e ∙ div-mul-add (first / w) w (x - first) (omega arith)

same_high_bits : (x y k i j : ℕ) → k + i ≡ j → x / 2 ^ k ≡ y / 2 ^ k → x / 2 ^ j ≡ y / 2 ^ j
same_high_bits x y k i j is same =
    subst (λ (n : ℕ). x / 2 ^ n ≡ y / 2 ^ n) is (sym (shr-shr x k i) ∙ (ap (λ n. n / 2 ^ i) same ∙ shr-shr y k i))

-- with one address of a range all are canonical, where the range is no longer than half of the space
canonical_range : (five_levels : Bool) (x y k : ℕ) → k ≤ (if five_levels then 56 else 47) → x / 2 ^ k ≡ y / 2 ^ k
    → IsTrue (is_canonical five_levels x) → IsTrue (is_canonical five_levels y)
canonical_range true x y k few same canonical =
    subst (λ (n : ℕ). IsTrue (n % 2 ^ 8 == 0 || n % 2 ^ 8 == 2 ^ 8 - 1)) (same_high_bits x y k (56 - k) 56 (omega arith) same) canonical
canonical_range false x y k few same canonical =
    subst (λ (n : ℕ). IsTrue (n % 2 ^ 17 == 0 || n % 2 ^ 17 == 2 ^ 17 - 1)) (same_high_bits x y k (47 - k) 47 (omega arith) same) canonical

few_bits : (five_levels : Bool) (level : ℕ) → level < (if five_levels then 5 else 4) → 12 + 9 * level ≤ (if five_levels then 56 else 47)
few_bits true level below = omega arith
few_bits false level below = omega arith

few_levels : (five_levels : Bool) (level : ℕ) → level < (if five_levels then 5 else 4) → level < 5
few_levels true level below = omega arith
few_levels false level below = omega arith

module _ (memory : Memory) (settings : Settings) (root : ℕ) (table : TableUse) (from count : ℕ) (is_use : IsUse memory settings root table) where
  served-reached : (is_prefix : IsPrefix settings (table.level + 1) table.prefix) → 1 ≤ table.level
      → table.level < top_level settings → from + count ≤ 512
      → AreReached memory settings root table.level table.frame table.prefix table.bits from count
  served-reached is_prefix some lower slots =
      let next : suc table.level ≡ table.level + 1 = omega arith in
      let longer : span (table.level + 1) ≡ 512 * span table.level =
      subst (λ (n : ℕ). span n ≡ 512 * span table.level) next (span_suc table.level some) in
      let exponent : 12 + 9 * (table.level + 1 - 1) ≡ 12 + 9 * table.level = omega arith in
      let few = few_bits settings.la57 table.level lower in
      let levels = few_levels settings.la57 table.level lower in
      let up : (from + count) * span table.level ≤ 512 * span table.level = mul-le-mul_right (span table.level) slots in
      record {
        whole = subst (λ (w : ℕ). table.prefix % w ≡ 0) longer is_prefix.whole;
        slots = slots;
        ends = subst (λ (w : ℕ). table.prefix + w ≤ 2 ^ 64) longer
            (power_ends table.prefix (12 + 9 * (table.level + 1 - 1)) (omega arith) is_prefix.whole is_prefix.below);
        canonical = λ y low high.
            canonical_range settings.la57 table.prefix y (12 + 9 * (table.level + 1 - 1)) (omega arith)
            (sym (same_range (span (table.level + 1)) table.prefix y is_prefix.whole (omega arith) (omega arith))) is_prefix.canonical;
        reached = λ y low high.
            served_by_use table is_use (inr (same_range (span (table.level + 1)) table.prefix y is_prefix.whole (omega arith) (omega arith)));
      }

  pub use-reached : table.level < top_level settings → from + count ≤ 512
      → AreReached memory settings root table.level table.frame table.prefix table.bits from count
  use-reached lower slots = elim is_use.serves [
    | inl top ↦ absurd (omega (arith, top.0))
    | inr serves ↦ served-reached serves.2 serves.0 lower slots
  ]
