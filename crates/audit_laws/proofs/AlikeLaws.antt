-- Within one held page and one present page, or none, staleness and its excess are the same.
use Rattle.std.proofs.Common.{◌≡◌, ℕ, ◌+◌, ◌-◌, ◌*◌, ◌/◌, ◌%◌, ◌^◌, ◌<◌, ◌≤◌, ◌⊎◌, inl, inr, ◌&&◌, Bool, true, false, Option, Some, None, refl, sym, ap, ◌∙◌, subst, arith}
use Rattle.std.specs.Prelude.{◌==◌, if◌then◌else◌}
use Rattle.std.proofs.lemmas.Bool.Decides.{nat_tests}
use Rattle.std.proofs.lemmas.Nat.{div-add-mod', shr-shr}
use Rattle.paging_model.specs.AccessRights.{is_granted}
use Rattle.paging_model.specs.AccessSets.{has, minus_of, set_number}
use Rattle.paging_model.specs.LinearAddress.{span}
use Rattle.paging_model.specs.Translations.{Protection, Target, granted_target, is_permitted, rights_of}
use Rattle.paging_model.specs.declared.access.Access.{Access}
use Rattle.paging_model.specs.declared.registers.Regs.{Regs}
use Rattle.paging_laws.proofs.ZoneLaws.{reaches-same}
use Rattle.paging_laws.specs.LeafRanges.{AreInOneRange}
use Rattle.history_model.specs.CachedTranslations.{Held}
use Rattle.history_model.specs.StaleTranslations.{Exceeds, excess_over, held_target}
use Rattle.audit_laws.specs.AlikePages.{AreInOnePage, ExceedsWithin, excess_within, target_within}

-- the rights of a page are the same at addresses that share their bits from 47 on
pub rights-same : (known : Regs) (x y : ℕ) (page : Protection) → x < 2 ^ 64 → x / 2 ^ 47 ≡ y / 2 ^ 47 → rights_of known x page ≡ rights_of known y page
rights-same known x y page below h =
    let each : (access : Access) → is_permitted known access x page ≡ is_permitted known access y page =
    λ access. ap (λ (r : Bool). r && is_granted known access page.bits page.key) (reaches-same known access x y below h) in
    let same : (λ (access : Access). is_permitted known access x page) ≡ (λ (access : Access). is_permitted known access y page) = λ k access. each access k in
    ap set_number same

-- what is present and what is held lie alike at two pages: the same is granted, and the frames are equal at both or at none
pub record LieAlike (there other : Option (Target ℕ)) (granted other_granted : Target ℕ) : Type 0 where
  pub kind : granted.kind ≡ other_granted.kind
  pub both : ((there ≡ None) × (other ≡ None))
      ⊎ ((f : Target ℕ) × (g : Target ℕ) × (there ≡ Some f) × (other ≡ Some g) × (f.kind ≡ g.kind)
      × (f.frame ≡ granted.frame → g.frame ≡ other_granted.frame) × (g.frame ≡ other_granted.frame → f.frame ≡ granted.frame))

exceeds-some : (f g granted other_granted : Target ℕ) → granted.kind ≡ other_granted.kind → f.kind ≡ g.kind → (g.frame ≡ other_granted.frame → f.frame ≡ granted.frame)
    → Exceeds (Some f) granted → Exceeds (Some g) other_granted
exceeds-some f g granted other_granted k l back (inl differs) = inl (λ e. differs (back e))
exceeds-some f g granted other_granted k l back (inr more) = inr (more.0, ap (λ n. has n more.0) (sym k) ∙ more.1, ap (λ n. has n more.0) (sym l) ∙ more.2)

pub exceeds-same : (there other : Option (Target ℕ)) (granted other_granted : Target ℕ) → LieAlike there other granted other_granted → Exceeds there granted → Exceeds other other_granted
exceeds-same there other granted other_granted alike e = elim alike.both [
  | inl none ↦ subst (λ o. Exceeds o other_granted) (sym none.1) tt
  | inr some ↦ subst (λ o. Exceeds o other_granted) (sym some.3) (exceeds-some some.0 some.1 granted other_granted alike.kind some.4 some.6 (subst (λ o. Exceeds o granted) some.2 e))
]

test-same : (a b c d : ℕ) → (a ≡ b → c ≡ d) → (c ≡ d → a ≡ b) → (a == b) ≡ (c == d)
test-same a b c d f g = by_test (a == b) (c == d) refl refl
  where
    by_test : (p q : Bool) → (a == b) ≡ p → (c == d) ≡ q → p ≡ q
    by_test true true e h = refl
    by_test true false e h = let same : c ≡ d = f (grind (arith, nat_tests, e)) in absurd (grind (arith, nat_tests, same, h))
    by_test false true e h = let same : a ≡ b = g (grind (arith, nat_tests, h)) in absurd (grind (arith, nat_tests, same, e))
    by_test false false e h = refl

excess-some : (f g granted other_granted : Target ℕ) → granted.kind ≡ other_granted.kind → f.kind ≡ g.kind → (f.frame ≡ granted.frame → g.frame ≡ other_granted.frame)
    → (g.frame ≡ other_granted.frame → f.frame ≡ granted.frame) → excess_over (Some f) granted ≡ excess_over (Some g) other_granted
excess-some f g granted other_granted k l onward back =
    ap (λ (b : Bool). if b then minus_of granted.kind f.kind else granted.kind) (test-same f.frame granted.frame g.frame other_granted.frame onward back)
    ∙ (ap (λ n. if g.frame == other_granted.frame then minus_of n f.kind else n) k ∙ ap (λ n. if g.frame == other_granted.frame then minus_of other_granted.kind n else other_granted.kind) l)

pub excess-same : (there other : Option (Target ℕ)) (granted other_granted : Target ℕ) → LieAlike there other granted other_granted → excess_over there granted ≡ excess_over other other_granted
excess-same there other granted other_granted alike = elim alike.both [
  | inl none ↦ ap (λ o. excess_over o granted) none.0 ∙ (alike.kind ∙ sym (ap (λ o. excess_over o other_granted) none.1))
  | inr some ↦ ap (λ o. excess_over o granted) some.2 ∙ (excess-some some.0 some.1 granted other_granted alike.kind some.4 some.5 some.6 ∙ sym (ap (λ o. excess_over o other_granted) some.3))
]

-- one range of a level that maps pages has the same bits from 47 on
pub one_range-high : (level x y : ℕ) → level ≤ 3 → AreInOneRange level x y → x / 2 ^ 47 ≡ y / 2 ^ 47
one_range-high level x y of_pages one =
    let width : 12 + 9 * (level - 1) + (35 - 9 * (level - 1)) ≡ 47 = omega arith in
    let rest = 35 - 9 * (level - 1) in
    ap (λ n. x / 2 ^ n) (sym width) ∙ (sym (shr-shr x (12 + 9 * (level - 1)) rest)
    ∙ (ap (λ n. n / 2 ^ rest) one ∙ (shr-shr y (12 + 9 * (level - 1)) rest ∙ ap (λ n. y / 2 ^ n) width)))

-- two pages of one such range are alike for a held translation that serves both
pub pages-alike : (known : Regs) (page : Option (Target Protection)) (first level : ℕ) (held : Held) (x y : ℕ) → AreInOnePage level first x y
    → LieAlike (granted_target known x (target_within page first x)) (granted_target known y (target_within page first y)) (held_target known level x held) (held_target known level y held)
pages-alike known None first level held x y at =
    let high = one_range-high level x y at.of_pages at.one_range in
    record { kind = rights-same known x y (record { bits = held.bits; key = held.key }) at.below high; both = inl (refl, refl) }
pages-alike known (Some page) first level held x y at =
    let high = one_range-high level x y at.of_pages at.one_range in
    let f : Target ℕ = record { frame = page.frame + (x - first); kind = rights_of known x page.kind } in
    let g : Target ℕ = record { frame = page.frame + (y - first); kind = rights_of known y page.kind } in
    record {
      kind = rights-same known x y (record { bits = held.bits; key = held.key }) at.below high;
      both = inr (
        f,
        g,
        refl,
        refl,
        rights-same known x y page.kind at.below high,
        frames-same (span level) page.frame held.frame x y at.from_first at.other_from_first at.one_range,
        frames-same (span level) page.frame held.frame y x at.other_from_first at.from_first (sym at.one_range),
      );
    }
  where
    frames-same : (s frame own x y : ℕ) → first ≤ x → first ≤ y → x / s ≡ y / s → frame + (x - first) ≡ own + x % s → frame + (y - first) ≡ own + y % s
    frames-same s frame own x y ax ay one e =
        let dx = div-add-mod' x s in let dy = div-add-mod' y s in
        let same : x / s * s ≡ y / s * s = ap (λ n. n * s) one in
        omega (arith, dx, dy, same, e)

module _ (known : Regs) (page : Option (Target Protection)) (first level : ℕ) (held : Held) (x y : ℕ) (at : AreInOnePage level first x y) where
  other_below : y < 2 ^ 64
  other_below = let high = one_range-high level x y at.of_pages at.one_range in let below = at.below in omega (arith, high, below)

  pub turned : AreInOnePage level first y x
  turned = record { of_pages = at.of_pages; below = other_below; one_range = sym at.one_range; from_first = at.other_from_first; other_from_first = at.from_first }

  pub exceeds-alike : ExceedsWithin known page first level held x → ExceedsWithin known page first level held y
  exceeds-alike e = exceeds-same _ _ _ _ (pages-alike known page first level held x y at) e

  pub excess-alike : excess_within known page first level held x ≡ excess_within known page first level held y
  excess-alike = excess-same _ _ _ _ (pages-alike known page first level held x y at)
