-- Excesses, and their number.
use Rattle.std.proofs.Common.{◌≡◌, ◌≢◌, ℕ, ◌<◌, inl, inr, ◌&&◌, Bool, true, false, None, Some, refl, sym, ap, ◌∙◌, arith}
use Rattle.std.specs.Prelude.{◌==◌, not, if◌then◌else◌}
use Rattle.std.proofs.lemmas.Bool.Decides.{nat_tests}
use Rattle.paging_model.specs.AccessSets.{has, minus_of, set_number}
use Rattle.paging_model.specs.Translations.{Protection, Target, rights_of}
use Rattle.paging_model.specs.declared.access.Access.{Access}
use Rattle.paging_model.specs.declared.access.Access.TheVariants.{Ur, Uw, Ux, Sr, Sw, Sx, Ir, Iw}
use Rattle.paging_model.specs.declared.registers.Regs.{Regs}
use Rattle.history_model.specs.CachedTranslations.{frame_at}
use Rattle.history_model.specs.StaleTranslations.{Exceeds, excess_over}
use Rattle.present_pages.specs.StalePages.{ExceedsAt, IsExcess, held_page_target, translation_of}
use Rattle.present_pages.specs.declared.stale_pages.HeldPage.{HeldPage}

none_of : (b : Bool) (n : ℕ) → 0 < n → (if b then n else 0) ≡ 0 → b ≡ false
none_of true n some h = absurd (omega arith)
none_of false n some h = refl

-- a set of number 0 has no member
no_member : (is_member : Access → Bool) → set_number is_member ≡ 0 → (access : Access) → is_member access ≡ false
no_member f h Ur = none_of (f Ur) 1 (omega arith) (omega (arith, h))
no_member f h Uw = none_of (f Uw) 2 (omega arith) (omega (arith, h))
no_member f h Ux = none_of (f Ux) 4 (omega arith) (omega (arith, h))
no_member f h Sr = none_of (f Sr) 8 (omega arith) (omega (arith, h))
no_member f h Sw = none_of (f Sw) 16 (omega arith) (omega (arith, h))
no_member f h Sx = none_of (f Sx) 32 (omega arith) (omega (arith, h))
no_member f h Ir = none_of (f Ir) 64 (omega arith) (omega (arith, h))
no_member f h Iw = none_of (f Iw) 128 (omega arith) (omega (arith, h))

both : (a b : Bool) → a ≡ true → b ≡ false → (a && not b) ≡ true
both true false e f = refl
both true true e f = absurd (cc)
both false b e f = absurd (cc)

clash : (b : Bool) → b ≡ true → b ≡ false → ⊥
clash b e f = absurd (cc)

-- where the frames are equal and the difference is empty, nothing exceeds
pub nothing-over : (there granted : Target ℕ) → there.frame ≡ granted.frame → minus_of granted.kind there.kind ≡ 0 → Exceeds (Some there) granted → ⊥
nothing-over there granted same none (inl differs) = differs same
nothing-over there granted same none (inr more) =
    clash (has granted.kind more.0 && not (has there.kind more.0)) (both _ _ more.1 more.2)
    (no_member (λ access. has granted.kind access && not (has there.kind access)) none more.0)

-- a set of another number has a member
member : (is_member : Access → Bool) → set_number is_member ≢ 0 → (access : Access) × (is_member access ≡ true)
member f h = go (f Ur) (f Uw) (f Ux) (f Sr) (f Sw) (f Sx) (f Ir) (f Iw) refl refl refl refl refl refl refl refl
  where
    go : (a b c d e g i j : Bool) → f Ur ≡ a → f Uw ≡ b → f Ux ≡ c → f Sr ≡ d → f Sw ≡ e → f Sx ≡ g → f Ir ≡ i → f Iw ≡ j
        → (access : Access) × (f access ≡ true)
    go true b c d e g i j p q r s t u v w = (Ur, p)
    go false true c d e g i j p q r s t u v w = (Uw, q)
    go false false true d e g i j p q r s t u v w = (Ux, r)
    go false false false true e g i j p q r s t u v w = (Sr, s)
    go false false false false true g i j p q r s t u v w = (Sw, t)
    go false false false false false true i j p q r s t u v w = (Sx, u)
    go false false false false false false true j p q r s t u v w = (Ir, v)
    go false false false false false false false true p q r s t u v w = (Iw, w)
    go false false false false false false false false p q r s t u v w = absurd (h (rw (p, q, r, s, t, u, v, w) refl))

split : (a b : Bool) → (a && not b) ≡ true → (a ≡ true) × (b ≡ false)
split true false h = (refl, refl)
split true true h = absurd (cc)
split false b h = absurd (cc)

pub something-over : (there granted : Target ℕ) → minus_of granted.kind there.kind ≢ 0 → Exceeds (Some there) granted
something-over there granted some =
    let m = member (λ access. has granted.kind access && not (has there.kind access)) some in
    let two = split (has granted.kind m.0) (has there.kind m.0) m.1 in
    inr (m.0, two.0, two.1)

test_true : (a b : ℕ) → a ≡ b → (a == b) ≡ true
test_true a b h = grind (arith, nat_tests)

test_false : (a b : ℕ) → a ≢ b → (a == b) ≡ false
test_false a b h = grind (arith, nat_tests, h)

pub excess_over-same_frame : (there granted : Target ℕ) → there.frame ≡ granted.frame → excess_over (Some there) granted ≡ minus_of granted.kind there.kind
excess_over-same_frame there granted h =
    ap (λ (b : Bool). if b then minus_of granted.kind there.kind else granted.kind) (test_true there.frame granted.frame h)

pub excess_over-other_frame : (there granted : Target ℕ) → there.frame ≢ granted.frame → excess_over (Some there) granted ≡ granted.kind
excess_over-other_frame there granted h =
    ap (λ (b : Bool). if b then minus_of granted.kind there.kind else granted.kind) (test_false there.frame granted.frame h)

-- at one page, where a held page takes it and what it grants there are given by numbers
module _ (regs : Regs) (held : HeldPage) (x frame own : ℕ) (frame_is : frame ≡ frame_at held.level x (translation_of held)) (own_is : own ≡ rights_of regs x (record { bits = held.bits; key = held.key })) where
  pub excess-unmapped : IsExcess regs held None (record { page = x; frame = frame; excess = own })
  excess-unmapped = record { exceeds = tt; frame = frame_is; excess = own_is }

  pub excess-elsewhere : (there : Target Protection) → there.frame ≢ frame → IsExcess regs held (Some there) (record { page = x; frame = frame; excess = own })
  excess-elsewhere there differs =
      let other : there.frame ≢ frame_at held.level x (translation_of held) = λ e. differs (e ∙ sym frame_is) in
      record {
        exceeds = inl other;
        frame = frame_is;
        excess = own_is ∙ sym (excess_over-other_frame (record { frame = there.frame; kind = rights_of regs x there.kind }) (held_page_target regs held x) other);
      }

  module _ (there : Target Protection) (more : ℕ) (same : there.frame ≡ frame) (more_is : more ≡ minus_of own (rights_of regs x there.kind)) where
    abbrev present_target : Target ℕ
    present_target = record { frame = there.frame; kind = rights_of regs x there.kind }

    more_over : more ≡ minus_of (rights_of regs x (record { bits = held.bits; key = held.key })) (rights_of regs x there.kind)
    more_over = more_is ∙ ap (λ n. minus_of n (rights_of regs x there.kind)) own_is

    pub excess-more : more ≢ 0 → IsExcess regs held (Some there) (record { page = x; frame = frame; excess = more })
    excess-more some = record {
      exceeds = something-over present_target (held_page_target regs held x) (λ z. some (more_over ∙ z));
      frame = frame_is;
      excess = more_over ∙ sym (excess_over-same_frame present_target (held_page_target regs held x) (same ∙ frame_is));
    }

    pub no-excess : more ≡ 0 → ExceedsAt regs held (Some there) x → ⊥
    no-excess none = nothing-over present_target (held_page_target regs held x) (same ∙ frame_is) (sym more_over ∙ none)

-- a test of two sets
pub other-set : (more none : ℕ) → (more == none) ≡ false → none ≡ 0 → more ≢ 0
other-set more none test zero_is e = absurd (grind (arith, nat_tests, test, zero_is, e))
