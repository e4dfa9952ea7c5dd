-- The ranges of slots, and what the present tables make of them.
use Rattle.std.proofs.Common.{◌≡◌, ℕ, ◌+◌, ◌-◌, ◌*◌, ◌/◌, ◌%◌, ◌^◌, ◌<◌, ◌≤◌, Option, Some, refl, sym, ap, ◌∙◌, arith}
use Rattle.std.proofs.lemmas.Nat.{pow-add, div-add-mod'}
use Rattle.std.proofs.Math.Nat.{mul-le-mul_right, mul-mod_left}
use Rattle.paging_model.specs.LinearAddress.{span}
use Rattle.paging_model.specs.Memory.{Memory}
use Rattle.paging_model.specs.Entries.{root_bits}
use Rattle.paging_model.specs.Translations.{Protection, Target, raw_target_of}
use Rattle.paging_model.specs.Walking.{top_level, walk, walk_from}
use Rattle.paging_model.specs.declared.entries.Bits.{Bits}
use Rattle.paging_model.specs.declared.registers.Settings.{Settings}
use Rattle.phys_view.specs.Seen.{memory_of}
use Rattle.present_pages.specs.PresentRanges.{IsThere, maps}
use Rattle.present_pages.specs.declared.ranges.PresentPage.{PresentPage}
use Rattle.present_pages.specs.declared.ranges.There.{There}
use Rattle.present_pages.specs.declared.ranges.There.TheVariants as there
use Rattle.stale_audit.specs.Facts.{Facts, IsOfHome}

-- 512 entries of a level serve what one of the level above does
pub span-up : (level : ℕ) → 2 ≤ level → 512 * span (level - 1) ≡ span level
span-up level h =
    let e : 12 + 9 * (level - 1) ≡ 9 + (12 + 9 * (level - 1 - 1)) = omega arith in
    sym (ap (λ n. 2 ^ n) e ∙ pow-add 2 9 (12 + 9 * (level - 1 - 1)))

whole-plus : (first i s : ℕ) → first % (512 * s) ≡ 0 → (first + i * s) % s ≡ 0
whole-plus first i s h = grind (arith, mul-mod_left (first / (512 * s) * 512 + i) s, div-add-mod' first (512 * s), h)

pub slot-ends : (s i : ℕ) → i < 512 → i * s + s ≤ 512 * s
slot-ends s i h =
    let m : (i + 1) * s ≤ 512 * s = mul-le-mul_right s (omega arith) in
    let e : (i + 1) * s ≡ i * s + s = grind arith in
    omega (arith, m, e)

-- a slot's range within its table's
module _ (level first i : ℕ) (least : 2 ≤ level) (slot : i < 512) where
  pub slot-begins : first % span level ≡ 0 → (first + i * span (level - 1)) % span (level - 1) ≡ 0
  slot-begins whole = whole-plus first i (span (level - 1)) (ap (λ n. first % n) (span-up level least) ∙ whole)

  pub slot-within : i * span (level - 1) + span (level - 1) ≤ span level
  slot-within = let e = slot-ends (span (level - 1)) i slot in let up = span-up level least in omega (arith, e, up)

abbrev target-with : ℕ → Protection → Option (Target Protection)
target-with frame kind = Some (record { frame = frame; kind = kind })

-- what the present tables make of it
module _ (facts : Facts) (level first i at : ℕ) (least : 2 ≤ level) (slot : i < 512) (at_is : at ≡ first + i * span (level - 1)) where
  pub nothing-home : IsOfHome facts (record { level = level; first = first; there = there.Nothing })
      → IsOfHome facts (record { level = level - 1; first = at; there = there.Nothing })
  nothing-home home = λ x low high aligned.
      let e = slot-within level first i least slot in home x (omega (arith, low, at_is)) (omega (arith, high, at_is, e)) aligned

  pub page-there : (page : PresentPage) → IsThere level (there.Page page)
      → IsThere (level - 1) (there.Page (record { frame = page.frame + (at - first); bits = page.bits; key = page.key }))
  page-there page is =
      let e = slot-within level first i least slot in let room = is.0 in (omega (arith, e, at_is, room), is.1)

  pub page-home : (page : PresentPage) → IsOfHome facts (record { level = level; first = first; there = there.Page page })
      → IsOfHome facts (record { level = level - 1; first = at; there = there.Page (record { frame = page.frame + (at - first); bits = page.bits; key = page.key }) })
  page-home page home = λ x low high aligned.
      let e = slot-within level first i least slot in
      let same : page.frame + (at - first) + (x - at) ≡ page.frame + (x - first) = omega (arith, low, at_is) in
      ap (λ n. target-with n (record { bits = page.bits; key = page.key })) same
      ∙ home x (omega (arith, low, at_is)) (omega (arith, high, at_is, e)) aligned

  pub table-home : (frame : ℕ) (bits : Bits) (result : There) → IsOfHome facts (record { level = level; first = first; there = there.Table frame bits })
      → ((x : ℕ) → at ≤ x → x < at + span (level - 1) → x % 4096 ≡ 0
      → maps (memory_of facts.seen) facts.settings (level - 1) at result x
      ≡ raw_target_of (walk_from (memory_of facts.seen) facts.settings (level - 1) x frame bits))
      → IsOfHome facts (record { level = level - 1; first = at; there = result })
  table-home frame bits result home tells = λ x low high aligned.
      let e = slot-within level first i least slot in
      tells x low high aligned ∙ home x (omega (arith, low, at_is)) (omega (arith, high, at_is, e)) aligned

walk-is : (memory : Memory) (settings : Settings) (root x : ℕ)
    → walk memory settings root x ≡ walk_from memory settings (top_level settings) x root root_bits
unfolding walk
walk-is memory settings root x = refl

-- a slot of the top table
pub top-home : (facts : Facts) (level first : ℕ) (result : There) → level ≡ top_level facts.settings
    → ((x : ℕ) → first ≤ x → x < first + span level → x % 4096 ≡ 0
    → maps (memory_of facts.seen) facts.settings level first result x
    ≡ raw_target_of (walk_from (memory_of facts.seen) facts.settings level x facts.home root_bits))
    → IsOfHome facts (record { level = level; first = first; there = result })
top-home facts level first result top tells = λ x low high aligned. tells x low high aligned
    ∙ (ap (λ n. raw_target_of (walk_from (memory_of facts.seen) facts.settings n x facts.home root_bits)) top
    ∙ ap raw_target_of (sym (walk-is (memory_of facts.seen) facts.settings facts.home x)))
