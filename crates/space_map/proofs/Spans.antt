-- The lengths of the ranges that entries serve.
use Rattle.std.proofs.Common.{◌≡◌, ℕ, suc, ◌-◌, ◌*◌, ◌/◌, ◌%◌, ◌^◌, ◌≤◌, inl, inr, refl, arith, sym, ap, ◌∙◌}
use Rattle.std.proofs.lemmas.Bool.{cases_lt}
use Rattle.std.proofs.lemmas.Nat.{pow-add, div-add-mod'}
use Rattle.std.proofs.Math.Nat.{mul-mod_right}
use Rattle.paging_model.specs.LinearAddress.{span}
use Rattle.paging_laws.proofs.SlotRanges.{span_suc}

-- a table of the level below serves what an entry serves
pub span_down : (level : ℕ) → 2 ≤ level → 512 * span (level - 1) ≡ span level
span_down level least =
    let is : suc (level - 1) ≡ level = omega arith in
    sym (span_suc (level - 1) (omega arith)) ∙ ap span is

-- whole pages
pub span_whole : (level : ℕ) → span level % 4096 ≡ 0
span_whole level = rw (pow-add 2 12 (9 * (level - 1))) (omega arith)

-- a multiple of so many whole pages
pub pages_whole : (w n : ℕ) → w % 4096 ≡ 0 → n % w ≡ 0 → n % 4096 ≡ 0
pages_whole w n pages whole =
    let by_w : n ≡ n / w * w = omega (arith, div-add-mod' n w) in
    let by_page : w ≡ 4096 * (w / 4096) = omega arith in
    let is : n ≡ 4096 * (n / w * (w / 4096)) = by_w ∙ (ap (λ z. n / w * z) by_page ∙ omega arith) in
    ap (λ z. z % 4096) is ∙ mul-mod_right 4096 (n / w * (w / 4096))

-- the prefix of the top table for the upper half is a multiple of what the table would serve
pub upper-whole : (level : ℕ) → 4 ≤ level → level ≤ 5 → (2 ^ 64 - 512 * span level) % (512 * span level) ≡ 0
upper-whole level least most = elim (cases_lt level 5) [
  | inl less ↦ let four : level ≡ 4 = omega arith in rw four refl
  | inr five ↦ let is : level ≡ 5 = omega arith in rw is refl
]
