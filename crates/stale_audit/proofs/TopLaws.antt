-- The findings under a root, slot by slot.
use Rattle.std.proofs.Common.{◌≡◌, ℕ, ◌+◌, ◌-◌, ◌*◌, ◌%◌, ◌^◌, ◌<◌, ◌≤◌, ◌⊎◌, inl, inr, Bool, true, false, List, Option, Some, None, refl, sym, ap, ◌∙◌, subst, arith}
use Rattle.std.specs.Prelude.{is_some, nat_lt, if◌then◌else◌}
use Rattle.std.proofs.lemmas.Bool.Decides.{nat_tests}
use Rattle.paging_model.specs.LinearAddress.{span}
use Rattle.paging_model.specs.Entries.{root_bits}
use Rattle.audit_laws.specs.Firsts.{ComesNotAfter, IsFirst}
use Rattle.stale_audit.specs.Findings.{IsFoundIn}
use Rattle.audit_laws.specs.declared.stale_pages.StalePage.{StalePage}
use Rattle.audit_laws.specs.Leads.{IsTimeOf}
use Rattle.audit_laws.proofs.FirstLaws.{first-same}
use Rattle.paging_model.specs.Walking.{top_level}
use Rattle.paging_model.specs.declared.registers.Settings.{Settings}
use Rattle.time_sets.specs.Sets.{has_time}
use Rattle.stale_audit.specs.Facts.{Facts}
use Rattle.stale_audit.specs.SlotEntries.{IsSplit, is_in_use}
use Rattle.stale_audit.specs.declared.timed_tables.TimedTable.{TimedTable}
use Rattle.stale_audit.proofs.TableLaws.{leads-all, split-leads}
use Rattle.stale_audit.specs.Tops.{IsFoundBefore, IsFoundFrom, IsTopPage, top_first}

low-is : (level i : ℕ) → i < 256 → top_first level i ≡ i * span level
low-is level i h = let e : nat_lt i 256 ≡ true = grind (arith, nat_tests) in ap (λ (b : Bool). if b then i * span level else i * span level + (2 ^ 64 - 512 * span level)) e

high-is : (level i : ℕ) → 256 ≤ i → top_first level i ≡ i * span level + (2 ^ 64 - 512 * span level)
high-is level i h = let e : nat_lt i 256 ≡ false = grind (arith, nat_tests) in ap (λ (b : Bool). if b then i * span level else i * span level + (2 ^ 64 - 512 * span level)) e

-- a page before the next slot, or in this one
cases : (s i x : ℕ) → 512 * s ≤ 2 ^ 64 → (x < 256 * s) ⊎ (2 ^ 64 ≤ x + 256 * s) → i < 512 → (first next : ℕ)
    → ((i < 256) → first ≡ i * s) → ((256 ≤ i) → first ≡ i * s + (2 ^ 64 - 512 * s)) → ((i + 1 < 256) → next ≡ i * s + s) → ((256 ≤ i + 1) → next ≡ i * s + s + (2 ^ 64 - 512 * s))
    → x < next → (x < first) ⊎ ((first ≤ x) × (x < first + s))
cases s i x room half h first next a b c d before = by_test (nat_lt x first) refl
  where
    by_test : (t : Bool) → nat_lt x first ≡ t → (x < first) ⊎ ((first ≤ x) × (x < first + s))
    by_test true e = inl (grind (arith, nat_tests, e))
    by_test false e = let low : first ≤ x = grind (arith, nat_tests, e) in inr (low, by_slot (nat_lt i 255) (nat_lt i 256) refl refl)
      where
        by_slot : (p q : Bool) → nat_lt i 255 ≡ p → nat_lt i 256 ≡ q → x < first + s
        by_slot true q f g = let less : i < 255 = grind (arith, nat_tests, f) in let u = a (omega (arith, less)) in let v = c (omega (arith, less)) in omega (arith, u, v, before)
        by_slot false false f g = let more : 256 ≤ i = grind (arith, nat_tests, g) in let u = b more in let v = d (omega (arith, more)) in omega (arith, u, v, before)
        by_slot false true f g =
            let is : i ≡ 255 = let y : 255 ≤ i = grind (arith, nat_tests, f) in let z : i < 256 = grind (arith, nat_tests, g) in omega (arith, y, z) in
            let u : first ≡ 255 * s = a (omega (arith, is)) ∙ ap (λ n. n * s) is in
            let v : next ≡ 255 * s + s + (2 ^ 64 - 512 * s) = d (omega (arith, is)) ∙ ap (λ n. n * s + s + (2 ^ 64 - 512 * s)) is in
            by_half half u v
          where
            by_half : (x < 256 * s) ⊎ (2 ^ 64 ≤ x + 256 * s) → first ≡ 255 * s → next ≡ 255 * s + s + (2 ^ 64 - 512 * s) → x < first + s
            by_half (inl lower) u v = omega (arith, u, lower)
            by_half (inr upper) u v = absurd (omega (arith, v, before, upper, room))

-- where a slot lies
in-half : (s i first x : ℕ) → 512 * s ≤ 2 ^ 64 → i < 512 → ((i < 256) → first ≡ i * s) → ((256 ≤ i) → first ≡ i * s + (2 ^ 64 - 512 * s)) → (i * s + s ≤ 512 * s) → ((i < 256) → i * s + s ≤ 256 * s) → ((256 ≤ i) → 256 * s ≤ i * s)
    → first ≤ x → x < first + s → (x < 2 ^ 64) × ((x < 256 * s) ⊎ (2 ^ 64 ≤ x + 256 * s))
in-half s i first x room h a b whole low high from to = by_test (nat_lt i 256) refl
  where
    by_test : (t : Bool) → nat_lt i 256 ≡ t → (x < 2 ^ 64) × ((x < 256 * s) ⊎ (2 ^ 64 ≤ x + 256 * s))
    by_test true e = let less : i < 256 = grind (arith, nat_tests, e) in let u = a less in let v = low less in (omega (arith, u, v, to, room), inl (omega (arith, u, v, to)))
    by_test false e = let more : 256 ≤ i = grind (arith, nat_tests, e) in let u = b more in let v = high more in (omega (arith, u, whole, to, room), inr (omega (arith, u, v, from, room)))

module _ (facts : Facts) (Use : ℕ → Type 0) (level root : ℕ) (room : 512 * span level ≤ 2 ^ 64) (i : ℕ) (slot : i < 512) where
  abbrev Slot : StalePage → Type 0
  Slot one = IsFoundIn facts (top_first level i) (top_first level i + span level) Use level root root_bits one

  times-s : (a b s : ℕ) → a ≤ b → a * s ≤ b * s
  times-s a b s h = Rattle.std.proofs.Math.Nat.mul-le-mul_right s h

  next-is : (s : ℕ) → (i + 1) * s ≡ i * s + s
  next-is s = grind arith

  slot-page : (x : ℕ) → top_first level i ≤ x → x < top_first level i + span level → x % 4096 ≡ 0 → IsTopPage level x
  slot-page x from to aligned =
      let n = next-is (span level) in
      let w = times-s (i + 1) 512 (span level) (omega arith) in
      let two = in-half (span level) i (top_first level i) x room slot (low-is level i) (high-is level i) (omega (arith, n, w))
      (λ h. let l = times-s (i + 1) 256 (span level) (omega arith) in omega (arith, n, l)) (λ h. times-s 256 i (span level) h) from to in
      record { below = two.0; aligned = aligned; half = two.1 }

  pub slot-at : (one : StalePage) → IsFoundIn facts (top_first level i) (top_first level i + span level) Use level root root_bits one → IsFoundFrom facts Use level root one
  slot-at one f = record { page = slot-page one.page f.page.least f.page.below f.page.aligned; k = f.k; held = f.held; leads = f.leads; stale = f.stale }

  where-is : (one : StalePage) → IsFoundBefore facts Use level root (top_first level (i + 1)) one
      → IsFoundBefore facts Use level root (top_first level i) one ⊎ IsFoundIn facts (top_first level i) (top_first level i + span level) Use level root root_bits one
  where-is one b =
      let n = next-is (span level) in
      elim (cases (span level) i one.page room b.found.page.half slot (top_first level i) (top_first level (i + 1)) (low-is level i) (high-is level i) (λ h. low-is level (i + 1) h ∙ n)
      (λ h. high-is level (i + 1) h ∙ ap (λ m. m + (2 ^ 64 - 512 * span level)) n) b.before) [
        | inl before ↦ inl (record { found = b.found; before = before })
        | inr here ↦ inr (record { page = record { least = here.0; below = here.1; aligned = b.found.page.aligned }; k = b.found.k; held = b.found.held; leads = b.found.leads; stale = b.found.stale })
      ]

  pub top-none : (found : Option StalePage) → is_some found ≡ false → IsFirst (IsFoundBefore facts Use level root (top_first level i)) None
      → IsFirst (IsFoundIn facts (top_first level i) (top_first level i + span level) Use level root root_bits) found → IsFirst (IsFoundBefore facts Use level root (top_first level (i + 1))) None
  top-none (Some f) h none is = absurd (cc)
  top-none None h none is = λ one b. elim (where-is one b) [ inl before ↦ none one before | inr here ↦ is one here ]

  pub top-some : (found : Option StalePage) → is_some found ≡ true → IsFirst (IsFoundBefore facts Use level root (top_first level i)) None
      → IsFirst (IsFoundIn facts (top_first level i) (top_first level i + span level) Use level root root_bits) found → IsFirst (IsFoundFrom facts Use level root) found
  top-some None h none is = absurd (cc)
  top-some (Some f) h none is = (slot-at f is.0, λ one at. by_test one at (nat_lt one.page (top_first level i)) (nat_lt one.page (top_first level i + span level)) refl refl)
    where
      by_test : (one : StalePage) → IsFoundFrom facts Use level root one → (a b : Bool) → nat_lt one.page (top_first level i) ≡ a → nat_lt one.page (top_first level i + span level) ≡ b → ComesNotAfter f one
      by_test one at true b p q = absurd (none one (record { found = at; before = grind (arith, nat_tests, p) }))
      by_test one at false true p q = is.1 one (record { page = record { least = grind (arith, nat_tests, p); below = grind (arith, nat_tests, q); aligned = at.page.aligned }; k = at.k; held = at.held; leads = at.leads; stale = at.stale })
      by_test one at false false p q = let below = is.0.page.below in let past : top_first level i + span level ≤ one.page = grind (arith, nat_tests, q) in inl (omega (arith, below, past))

pub top-begun : (facts : Facts) (Use : ℕ → Type 0) (level root : ℕ) → IsFirst (IsFoundBefore facts Use level root (top_first level 0)) None
top-begun facts Use level root = λ one b. let h = b.before in let e = low-is level 0 (omega arith) in absurd (omega (arith, h, e))

pub top-done : (facts : Facts) (Use : ℕ → Type 0) (level root : ℕ) → 512 * span level ≤ 2 ^ 64 → IsFirst (IsFoundBefore facts Use level root (top_first level 512)) None → IsFirst (IsFoundFrom facts Use level root) None
top-done facts Use level root room none = λ one at. let b = at.page.below in let e = high-is level 512 (omega arith) in none one (record { found = at; before = omega (arith, b, e, room) })

pub room-is : (level : ℕ) → 4 ≤ level → level ≤ 5 → 512 * span level ≤ 2 ^ 64
room-is level least most = by_test (nat_lt level 5) refl
  where
    by_test : (b : Bool) → nat_lt level 5 ≡ b → 512 * span level ≤ 2 ^ 64
    by_test true e = let is : level ≡ 4 = grind (arith, nat_tests, e, least) in subst (λ n. 512 * span n ≤ 2 ^ 64) (sym is) (omega arith)
    by_test false e = let is : level ≡ 5 = grind (arith, nat_tests, e, most) in subst (λ n. 512 * span n ≤ 2 ^ 64) (sym is) (omega arith)

pub top-room : (settings : Settings) → 512 * span (top_level settings) ≤ 2 ^ 64
top-room settings = by_levels settings.la57
  where
    by_levels : (five : Bool) → 512 * span (if five then 5 else 4) ≤ 2 ^ 64
    by_levels true = room-is 5 (omega arith) (omega arith)
    by_levels false = room-is 4 (omega arith) (omega arith)

-- by all times at which the root was in use
pub from-all : (facts : Facts) (in_use : List (ℕ × ℕ)) (table : TimedTable) → IsSplit facts in_use table → (level root : ℕ) (found : Option StalePage)
    → IsFirst (IsFoundFrom facts (IsTimeOf (is_in_use table)) level root) found → IsFirst (IsFoundFrom facts (IsTimeOf (has_time in_use)) level root) found
from-all facts in_use table split level root found is =
    first-same (IsFoundFrom facts (IsTimeOf (is_in_use table)) level root) (IsFoundFrom facts (IsTimeOf (has_time in_use)) level root) found
    (λ one f. record { page = f.page; k = f.k; held = f.held; leads = leads-all facts in_use table split one.page level root root_bits f.k f.held f.leads; stale = f.stale })
    (λ one f. record { page = f.page; k = f.k; held = f.held; leads = split-leads facts in_use table split one.page level root root_bits f.k f.held f.leads; stale = f.stale })
    is
