-- A slot of a table to which the present tables lead too leads to nothing stale, where neither it nor a table below it has
-- changed.
use Rattle.std.proofs.Common.{◌≡◌, ℕ, zero, suc, ◌+◌, ◌-◌, ◌*◌, ◌/◌, ◌%◌, ◌^◌, ◌<◌, ◌≤◌, inl, inr, Bool, true, false, None, refl, sym, ap, ◌∙◌, subst, arith}
use Rattle.std.specs.Prelude.{nat_lt, if◌then◌else◌}
use Rattle.std.proofs.lemmas.Bool.{cases_lt}
use Rattle.std.proofs.lemmas.Bool.Decides.{nat_tests}
use Rattle.std.proofs.lemmas.Nat.{div-add-mod', div-mul-add}
use Rattle.paging_model.specs.Entries.{root_bits}
use Rattle.paging_model.specs.LinearAddress.{index, span}
use Rattle.paging_model.specs.Translations.{raw_target_of}
use Rattle.paging_model.specs.Walking.{entry_address, top_level, walk, walk_from}
use Rattle.paging_model.specs.declared.entries.Bits.{Bits}
use Rattle.phys_view.specs.Seen.{memory_of}
use Rattle.audit_laws.specs.Firsts.{IsFirst}
use Rattle.present_pages.specs.PresentRanges.{maps}
use Rattle.present_pages.specs.declared.ranges.PresentRange.{PresentRange}
use Rattle.present_pages.specs.declared.ranges.There.{There}
use Rattle.present_pages.specs.declared.ranges.There.TheVariants as there
use Rattle.stale_audit.specs.Facts.{Facts, AreTimely, IsOfHome}
use Rattle.stale_audit.specs.Findings.{IsFoundIn}
use Rattle.stale_audit.specs.SteadyTables.{HadOneNxe, IsSteadyPlace, IsWalkedTo}
use Rattle.stale_audit.specs.Tops.{IsFoundBefore, top_first}
use Rattle.stale_audit.proofs.RangeLaws.{slot-within, span-up}
use Rattle.stale_audit.proofs.SteadyTableLaws.{led-by-walk, place-leads}
use Rattle.stale_audit.proofs.TableLaws.{table-none}
use Rattle.stale_audit.proofs.TopLaws.{room-is, top-none}

-- the slot that serves an address
index-in : (s base i x : ℕ) → base % (512 * s) ≡ 0 → i < 512 → base + i * s ≤ x → x < base + i * s + s → x / s % 512 ≡ i
index-in s base i x whole slot low high =
    let q = base / (512 * s) in
    let base_is : base ≡ q * (512 * s) = let is = div-add-mod' base (512 * s) in omega (arith, is, whole) in
    let product : (q * 512 + i) * s ≡ q * (512 * s) + i * s = grind arith in
    let r = x - (base + i * s) in
    let x_is : x ≡ (q * 512 + i) * s + r = omega (arith, base_is, product, low) in
    let number : x / s ≡ q * 512 + i = ap (λ n. n / s) x_is ∙ div-mul-add (q * 512 + i) s r (omega (arith, low, high)) in
    ap (λ n. n % 512) number ∙ omega (arith, slot)

-- of an unchanged slot, which serves these addresses, nothing is found
unchanged-in : (facts : Facts) (InUse : ℕ → Type 0) (level first table i : ℕ) (bits : Bits) → AreTimely facts → 1 ≤ level
    → ((x : ℕ) → first ≤ x → x < first + span level → index level x ≡ i)
    → IsWalkedTo facts first (first + span level) level table bits → IsSteadyPlace facts level (table + 8 * i)
    → IsFirst (IsFoundIn facts first (first + span level) InUse level table bits) None
unchanged-in facts InUse level first table i bits ready least serves walked steady one found =
    let x = one.page in
    let place : table + 8 * i ≡ entry_address level x table = ap (λ n. table + 8 * n) (sym (serves x found.page.least found.page.below)) in
    led-by-walk facts InUse first (first + span level) level table bits one found
    (walked.walks x found.page.least found.page.below found.page.aligned
    ∙ place-leads facts ready walked.one_nxe x InUse level table bits found.k found.held least (subst (IsSteadyPlace facts level) place steady) found.leads)

-- of a table; the level is that of the entry that references it
unchanged-place : (facts : Facts) (InUse : ℕ → Type 0) (level first table i : ℕ) (bits : Bits) → AreTimely facts → 2 ≤ level → first % span level ≡ 0 → i < 512
    → IsWalkedTo facts first (first + span level) (level - 1) table bits → IsSteadyPlace facts (level - 1) (table + 8 * i)
    → IsFirst (IsFoundIn facts (first + i * span (level - 1)) (first + i * span (level - 1) + span (level - 1)) InUse (level - 1) table bits) None
unchanged-place facts InUse level first table i bits ready least whole slot walked steady =
    let within = slot-within level first i least slot in
    let up = span-up level least in
    unchanged-in facts InUse (level - 1) (first + i * span (level - 1)) table i bits ready (omega arith)
    (λ x low high. index-in (span (level - 1)) first i x (ap (λ n. first % n) up ∙ whole) slot low high)
    (record {
      one_nxe = walked.one_nxe;
      walks = λ x low high aligned. walked.walks x (omega (arith, low)) (omega (arith, high, within)) aligned;
    })
    steady

-- what holds of the numbers before i and of i
pub up-to-next : (P : ℕ → Type 0) (from i : ℕ) → ((k : ℕ) → from ≤ k → k < i → P k) → P i → (k : ℕ) → from ≤ k → k < i + 1 → P k
up-to-next P from i before here k low high = by_test (nat_lt k i) refl
  where
    by_test : (b : Bool) → nat_lt k i ≡ b → P k
    by_test true e = before k low (grind (arith, nat_tests, e))
    by_test false e = let is : i ≡ k = let least : i ≤ k = grind (arith, nat_tests, e) in omega (arith, least, high) in subst P is here

-- nothing is found before the first slot
pub begun : (facts : Facts) (InUse : ℕ → Type 0) (level first s table : ℕ) (bits : Bits) → IsFirst (IsFoundIn facts first (first + 0 * s) InUse level table bits) None
begun facts InUse level first s table bits one found = let low = found.page.least in let high = found.page.below in absurd (omega (arith, low, high))

-- where the slots from i on are unchanged, up to so many, no more is found up to there than before i
unchanged-run : (facts : Facts) (InUse : ℕ → Type 0) (level first table i : ℕ) (bits : Bits) → AreTimely facts → 2 ≤ level → first % span level ≡ 0
    → (d : ℕ) → i + d ≤ 512 → (0 < d → IsWalkedTo facts first (first + span level) (level - 1) table bits)
    → ((k : ℕ) → i ≤ k → k < i + d → IsSteadyPlace facts (level - 1) (table + 8 * k))
    → IsFirst (IsFoundIn facts first (first + i * span (level - 1)) InUse (level - 1) table bits) None
    → IsFirst (IsFoundIn facts first (first + (i + d) * span (level - 1)) InUse (level - 1) table bits) None
unchanged-run facts InUse level first table i bits ready least whole zero within walked unchanged none =
    let is : i ≡ i + 0 = omega arith in
    subst (λ n. IsFirst (IsFoundIn facts first (first + n * span (level - 1)) InUse (level - 1) table bits) None) is none
unchanged-run facts InUse level first table i bits ready least whole (suc d) within walked unchanged none =
    let here : i + d < 512 = omega (arith, within) in
    let is : i + d + 1 ≡ i + suc d = omega arith in
    subst (λ n. IsFirst (IsFoundIn facts first (first + n * span (level - 1)) InUse (level - 1) table bits) None) is
    (table-none facts first (span (level - 1)) (i + d) InUse (level - 1) table bits None here refl
    (unchanged-run facts InUse level first table i bits ready least whole d (omega (arith, within)) (λ some. walked (omega arith))
    (λ k low high. unchanged k low (omega (arith, high))) none)
    (unchanged-place facts InUse level first table (i + d) bits ready least whole here (walked (omega arith)) (unchanged (i + d) (omega arith) (omega arith))))

-- up to j
pub unchanged-to : (facts : Facts) (InUse : ℕ → Type 0) (level first table i j : ℕ) (bits : Bits) → AreTimely facts → 2 ≤ level → first % span level ≡ 0
    → i ≤ j → j ≤ 512 → (i < j → IsWalkedTo facts first (first + span level) (level - 1) table bits)
    → ((k : ℕ) → i ≤ k → k < j → IsSteadyPlace facts (level - 1) (table + 8 * k))
    → IsFirst (IsFoundIn facts first (first + i * span (level - 1)) InUse (level - 1) table bits) None
    → IsFirst (IsFoundIn facts first (first + j * span (level - 1)) InUse (level - 1) table bits) None
unchanged-to facts InUse level first table i j bits ready least whole up within walked unchanged none =
    let is : i + (j - i) ≡ j = omega (arith, up) in
    subst (λ n. IsFirst (IsFoundIn facts first (first + n * span (level - 1)) InUse (level - 1) table bits) None) is
    (unchanged-run facts InUse level first table i bits ready least whole (j - i) (omega (arith, is, within)) (λ some. walked (omega (arith, some)))
    (λ k low high. unchanged k low (omega (arith, is, high))) none)

-- a table that the present tables reference
pub walked-below : (facts : Facts) (range : PresentRange) (table : ℕ) (bits : Bits) → HadOneNxe facts → IsOfHome facts range → range.there ≡ there.Table table bits
    → IsWalkedTo facts range.first (range.first + span range.level) (range.level - 1) table bits
walked-below facts range table bits one_nxe home there_is = record {
  one_nxe = one_nxe;
  walks = λ x low high aligned. sym (home x low high aligned) ∙ ap (λ (at : There). maps (memory_of facts.seen) facts.settings range.level range.first at x) there_is;
}

walk-is : (facts : Facts) (x : ℕ) → raw_target_of (walk (memory_of facts.seen) facts.settings facts.home x)
    ≡ raw_target_of (walk_from (memory_of facts.seen) facts.settings (top_level facts.settings) x facts.home root_bits)
unfolding walk
walk-is facts x = refl

top-index : (level i x : ℕ) → 4 ≤ level → level ≤ 5 → i < 512 → top_first level i ≤ x → x < top_first level i + span level → index level x ≡ i
top-index level i x least most slot low high = by_test (nat_lt i 256) refl
  where
    upper : (2 ^ 64 - 512 * span level) % (512 * span level) ≡ 0
    upper = elim (cases_lt level 5) [
      | inl four ↦ let is : level ≡ 4 = omega (arith, four, least) in rw is refl
      | inr five ↦ let is : level ≡ 5 = omega (arith, five, most) in rw is refl
    ]

    lower : 0 % (512 * span level) ≡ 0
    lower = elim (cases_lt level 5) [
      | inl four ↦ let is : level ≡ 4 = omega (arith, four, least) in rw is refl
      | inr five ↦ let is : level ≡ 5 = omega (arith, five, most) in rw is refl
    ]

    by_test : (b : Bool) → nat_lt i 256 ≡ b → index level x ≡ i
    by_test true e =
        let first : top_first level i ≡ 0 + i * span level = ap (λ (b : Bool). if b then i * span level else i * span level + (2 ^ 64 - 512 * span level)) e ∙ omega arith in
        index-in (span level) 0 i x lower slot (omega (arith, first, low)) (omega (arith, first, high))
    by_test false e =
        let first : top_first level i ≡ (2 ^ 64 - 512 * span level) + i * span level =
        ap (λ (b : Bool). if b then i * span level else i * span level + (2 ^ 64 - 512 * span level)) e ∙ omega arith in
        index-in (span level) (2 ^ 64 - 512 * span level) i x upper slot (omega (arith, first, low)) (omega (arith, first, high))

-- of the present root
unchanged-top : (facts : Facts) (InUse : ℕ → Type 0) (level table i : ℕ) → AreTimely facts → level ≡ top_level facts.settings → 4 ≤ level → level ≤ 5 → i < 512
    → HadOneNxe facts → table ≡ facts.home → IsSteadyPlace facts level (table + 8 * i)
    → IsFirst (IsFoundIn facts (top_first level i) (top_first level i + span level) InUse level table root_bits) None
unchanged-top facts InUse level table i ready top least most slot one_nxe home steady =
    unchanged-in facts InUse level (top_first level i) table i root_bits ready (omega (arith, least)) (λ x low high. top-index level i x least most slot low high)
    (record {
      one_nxe = one_nxe;
      walks = λ x low high aligned. walk-is facts x
          ∙ (ap (λ n. raw_target_of (walk_from (memory_of facts.seen) facts.settings n x facts.home root_bits)) (sym top)
          ∙ ap (λ n. raw_target_of (walk_from (memory_of facts.seen) facts.settings level x n root_bits)) (sym home));
    })
    steady

top-run : (facts : Facts) (InUse : ℕ → Type 0) (level table i : ℕ) → AreTimely facts → level ≡ top_level facts.settings → 4 ≤ level → level ≤ 5
    → (d : ℕ) → i + d ≤ 512 → (0 < d → HadOneNxe facts × (table ≡ facts.home))
    → ((k : ℕ) → i ≤ k → k < i + d → IsSteadyPlace facts level (table + 8 * k))
    → IsFirst (IsFoundBefore facts InUse level table (top_first level i)) None
    → IsFirst (IsFoundBefore facts InUse level table (top_first level (i + d))) None
top-run facts InUse level table i ready top least most zero within present unchanged none =
    let is : i ≡ i + 0 = omega arith in
    subst (λ n. IsFirst (IsFoundBefore facts InUse level table (top_first level n)) None) is none
top-run facts InUse level table i ready top least most (suc d) within present unchanged none =
    let here : i + d < 512 = omega (arith, within) in
    let is : i + d + 1 ≡ i + suc d = omega arith in
    let now = present (omega arith) in
    subst (λ n. IsFirst (IsFoundBefore facts InUse level table (top_first level n)) None) is
    (top-none facts InUse level table (room-is level least most) (i + d) here None refl
    (top-run facts InUse level table i ready top least most d (omega (arith, within)) (λ some. present (omega arith))
    (λ k low high. unchanged k low (omega (arith, high))) none)
    (unchanged-top facts InUse level table (i + d) ready top least most here now.0 now.1 (unchanged (i + d) (omega arith) (omega arith))))

-- where the slots of the present root from i on are unchanged, up to j, no more is found up to there than before i
unchanged-top-to : (facts : Facts) (InUse : ℕ → Type 0) (level table i j : ℕ) → AreTimely facts → level ≡ top_level facts.settings → 4 ≤ level → level ≤ 5
    → i ≤ j → j ≤ 512 → (i < j → HadOneNxe facts × (table ≡ facts.home))
    → ((k : ℕ) → i ≤ k → k < j → IsSteadyPlace facts level (table + 8 * k))
    → IsFirst (IsFoundBefore facts InUse level table (top_first level i)) None
    → IsFirst (IsFoundBefore facts InUse level table (top_first level j)) None
unchanged-top-to facts InUse level table i j ready top least most up within present unchanged none =
    let is : i + (j - i) ≡ j = omega (arith, up) in
    subst (λ n. IsFirst (IsFoundBefore facts InUse level table (top_first level n)) None) is
    (top-run facts InUse level table i ready top least most (j - i) (omega (arith, is, within)) (λ some. present (omega (arith, some)))
    (λ k low high. unchanged k low (omega (arith, is, high))) none)

-- the same of the table of the top level at a root
pub unchanged-root-to : (facts : Facts) (InUse : ℕ → Type 0) (level table root i j : ℕ) → AreTimely facts → level ≡ top_level facts.settings → 4 ≤ level → level ≤ 5
    → table ≡ root → i ≤ j → j ≤ 512 → (i < j → HadOneNxe facts × (root ≡ facts.home))
    → ((k : ℕ) → i ≤ k → k < j → IsSteadyPlace facts level (table + 8 * k))
    → IsFirst (IsFoundBefore facts InUse (top_level facts.settings) root (top_first (top_level facts.settings) i)) None
    → IsFirst (IsFoundBefore facts InUse (top_level facts.settings) root (top_first (top_level facts.settings) j)) None
unchanged-root-to facts InUse level table root i j ready top least most at up within present unchanged none =
    subst (λ n. IsFirst (IsFoundBefore facts InUse n root (top_first n j)) None) top
    (unchanged-top-to facts InUse level root i j ready top least most up within present
    (subst (λ r. (k : ℕ) → i ≤ k → k < j → IsSteadyPlace facts level (r + 8 * k)) at unchanged)
    (subst (λ n. IsFirst (IsFoundBefore facts InUse n root (top_first n i)) None) (sym top) none))
