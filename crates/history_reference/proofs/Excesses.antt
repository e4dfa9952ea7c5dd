-- What is granted beyond a present translation, by the number of the set.
use Rattle.std.proofs.Common.{◌≡◌, ◌≢◌, ℕ, ◌<◌, inl, inr, ◌&&◌, Bool, true, false, Some, refl, ap, arith}
use Rattle.std.specs.Prelude.{◌==◌, not, if◌then◌else◌}
use Rattle.std.proofs.lemmas.Bool.Decides.{nat_tests}
use Rattle.paging_model.specs.AccessSets.{has, minus_of, set_number}
use Rattle.paging_model.specs.Translations.{Target}
use Rattle.paging_model.specs.declared.access.Access.{Access}
use Rattle.paging_model.specs.declared.access.Access.TheVariants.{Ur, Uw, Ux, Sr, Sw, Sx, Ir, Iw}
use Rattle.history_model.specs.StaleTranslations.{Exceeds, excess_over}

none_of : (b : Bool) (n : ℕ) → 0 < n → (if b then n else 0) ≡ 0 → b ≡ false
none_of true n some h = absurd (omega arith)
none_of false n some h = refl

-- a set of number 0 has no member
no_member : (is_member : Access → Bool) → set_number is_member ≡ 0 → (access : Access) → is_member access ≡ false
no_member f h Ur = none_of (f Ur) 1 (omega arith) (omega (arith, h))
no_member f h Uw = none_of (f Uw) 2 (omega arith) (omega (arith, h))
no_member f h Ux = none_of (f Ux) 4 (omega arith) (omega (arith, h))
no_member f h Sr = none_of (f Sr) 8 (omega arith) (omega (arith, h))
no_member f h Sw = none_of (f Sw) 16 (omega arith) (omega (arith, h))
no_member f h Sx = none_of (f Sx) 32 (omega arith) (omega (arith, h))
no_member f h Ir = none_of (f Ir) 64 (omega arith) (omega (arith, h))
no_member f h Iw = none_of (f Iw) 128 (omega arith) (omega (arith, h))

both : (a b : Bool) → a ≡ true → b ≡ false → (a && not b) ≡ true
both true false e f = refl
both true true e f = absurd (cc)
both false b e f = absurd (cc)

clash : (b : Bool) → b ≡ true → b ≡ false → ⊥
clash b e f = absurd (cc)

-- where the frames are equal and the difference is empty, nothing exceeds
pub nothing_over : (there granted : Target ℕ) → there.frame ≡ granted.frame → minus_of granted.kind there.kind ≡ 0 → Exceeds (Some there) granted → ⊥
nothing_over there granted same none (inl differs) = differs same
nothing_over there granted same none (inr more) =
    clash (has granted.kind more.0 && not (has there.kind more.0)) (both _ _ more.1 more.2)
    (no_member (λ access. has granted.kind access && not (has there.kind access)) none more.0)

-- a member of a set of another number
member : (is_member : Access → Bool) → set_number is_member ≢ 0 → (access : Access) × (is_member access ≡ true)
member f h = go (f Ur) (f Uw) (f Ux) (f Sr) (f Sw) (f Sx) (f Ir) (f Iw) refl refl refl refl refl refl refl refl
  where
    go : (a b c d e g i j : Bool) → f Ur ≡ a → f Uw ≡ b → f Ux ≡ c → f Sr ≡ d → f Sw ≡ e → f Sx ≡ g → f Ir ≡ i → f Iw ≡ j
        → (access : Access) × (f access ≡ true)
    go true b c d e g i j p q r s t u v w = (Ur, p)
    go false true c d e g i j p q r s t u v w = (Uw, q)
    go false false true d e g i j p q r s t u v w = (Ux, r)
    go false false false true e g i j p q r s t u v w = (Sr, s)
    go false false false false true g i j p q r s t u v w = (Sw, t)
    go false false false false false true i j p q r s t u v w = (Sx, u)
    go false false false false false false true j p q r s t u v w = (Ir, v)
    go false false false false false false false true p q r s t u v w = (Iw, w)
    go false false false false false false false false p q r s t u v w = absurd (h (rw (p, q, r, s, t, u, v, w) refl))

split : (a b : Bool) → (a && not b) ≡ true → (a ≡ true) × (b ≡ false)
split true false h = (refl, refl)
split true true h = absurd (cc)
split false b h = absurd (cc)

pub something_over : (there granted : Target ℕ) → minus_of granted.kind there.kind ≢ 0 → Exceeds (Some there) granted
something_over there granted some =
    let m = member (λ access. has granted.kind access && not (has there.kind access)) some in
    let two = split (has granted.kind m.0) (has there.kind m.0) m.1 in
    inr (m.0, two.0, two.1)

test_true : (a b : ℕ) → a ≡ b → (a == b) ≡ true
test_true a b h = grind (arith, nat_tests)

test_false : (a b : ℕ) → a ≢ b → (a == b) ≡ false
test_false a b h = grind (arith, nat_tests, h)

pub excess_same_frame : (there granted : Target ℕ) → there.frame ≡ granted.frame → excess_over (Some there) granted ≡ minus_of granted.kind there.kind
excess_same_frame there granted h = ap (λ (b : Bool). if b then minus_of granted.kind there.kind else granted.kind) (test_true there.frame granted.frame h)

pub excess_other_frame : (there granted : Target ℕ) → there.frame ≢ granted.frame → excess_over (Some there) granted ≡ granted.kind
excess_other_frame there granted h = ap (λ (b : Bool). if b then minus_of granted.kind there.kind else granted.kind) (test_false there.frame granted.frame h)
