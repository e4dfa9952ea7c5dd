-- Spans that grow at their end, and the changes that decide a value.
use Rattle.std.proofs.Common.{◌≡◌, ◌≢◌, ℕ, zero, suc, ◌+◌, ◌-◌, ◌<◌, ◌≤◌, ◌⊎◌, inl, inr, ◌&&◌, Bool, true, false, List, [], ◌∷◌, ◌++◌, length, get_or, set, drop, Option, Some, None, refl, sym, ap, ◌∙◌, arith, subst}
use Rattle.std.specs.Prelude.{◌==◌, nat_lt, unwrap_or, if◌then◌else◌}
use Rattle.std.proofs.lemmas.List.{drop_more}
use Rattle.std.proofs.lemmas.Bool.Decides.{nat_tests}
use Rattle.version_store.specs.declared.change.Change.{Change}
use Rattle.version_store.specs.Changes.{old_in, value_in}
use Rattle.version_store.specs.Spanning.{IsSpan, AreSpans, grown}

some-is : (a b : ℕ) → Some a ≡ Some b → a ≡ b
some-is a b h = cc

none-is : (a : ℕ) → ◌≡◌ {A = Option ℕ} None (Some a) → ⊥
none-is a h = absurd (cc)

-- spans, and the value from their end up to a time
pub record Goes (value : ℕ → ℕ) (end last v : ℕ) : Type 0 where
  pub order : end ≤ last
  pub same : (t : ℕ) → end ≤ t → t ≤ last → value t ≡ v

module _ (value : ℕ → ℕ) where
  last_grows : (before : Option ℕ) (low end last v : ℕ) (one : ℕ × ℕ × ℕ) → AreSpans value before low end (one ∷ []) → Goes value end last v → AreSpans value before low (last + 1) (grown (one ∷ []) end last v)
  last_grows before low end last v one a g = by_test (one.2 == v) refl
    where
      early_or_late : (n t : ℕ) → (t ≤ n) ⊎ (n < t)
      early_or_late n t = by (nat_lt n t) refl
        where
          by : (b : Bool) → nat_lt n t ≡ b → (t ≤ n) ⊎ (n < t)
          by true e = inr (grind (arith, nat_tests))
          by false e = inl (grind (arith, nat_tests))

      by_test : (b : Bool) → (one.2 == v) ≡ b → AreSpans value before low (last + 1) (if b then (one.0, last, one.2) ∷ [] else one ∷ (end, last, v) ∷ [])
      by_test true e =
          let same : one.2 ≡ v = grind (arith, nat_tests) in
          let end_is : one.1 + 1 ≡ end = a.2 in
          let s : IsSpan value low one = a.0 in (
            record {
              begins = s.begins;
              order = let o = s.order in let go = g.order in omega arith;
              same = λ t h k. elim (early_or_late one.1 t) [ inl early ↦ s.same t h early | inr late ↦ g.same t (omega arith) k ∙ sym same ];
            },
            a.1,
            refl,
          )
      by_test false e =
          let s : IsSpan value low one = a.0 in
          (a.0, a.1, (record { begins = sym a.2; order = g.order; same = g.same }, (λ h. let same : one.2 ≡ v = some-is one.2 v h in absurd (grind (arith, nat_tests, same, e))), refl))

  more_grow : (before : Option ℕ) (low end last v : ℕ) (one : ℕ × ℕ × ℕ) (rest : List (ℕ × ℕ × ℕ)) → AreSpans value before low end (one ∷ rest) → Goes value end last v → AreSpans value before low (last + 1) (grown (one ∷ rest) end last v)
  more_grow before low end last v one [] a g = last_grows before low end last v one a g
  more_grow before low end last v one (two ∷ rest) a g = (a.0, a.1, more_grow (Some one.2) (one.1 + 1) end last v two rest a.2 g)

  pub spans_grow : (low end last v : ℕ) (spans : List (ℕ × ℕ × ℕ)) → AreSpans value None low end spans → Goes value end last v → AreSpans value None low (last + 1) (grown spans end last v)
  spans_grow low end last v [] a g = (record { begins = sym a; order = g.order; same = g.same }, none-is v, refl)
  spans_grow low end last v (one ∷ rest) a g = more_grow None low end last v one rest a g

-- the last span made longer
pub set-last : (spans : List (ℕ × ℕ × ℕ)) (n first last value : ℕ) (d : ℕ × ℕ × ℕ) → n + 1 ≡ length spans → (get_or spans n d).2 ≡ value
    → set spans n ((get_or spans n d).0, last, (get_or spans n d).2) ≡ grown spans first last value
set-last [] n first last value d h e = absurd (omega arith)
set-last (one ∷ []) zero first last value d h e =
    let test : (one.2 == value) ≡ true = grind (arith, nat_tests, e) in
    sym (ap (λ (b : Bool). if b then (one.0, last, one.2) ∷ [] else one ∷ (first, last, value) ∷ []) test)
set-last (one ∷ []) (suc n) first last value d h e = absurd (omega arith)
set-last (one ∷ two ∷ rest) zero first last value d h e = absurd (omega arith)
set-last (one ∷ two ∷ rest) (suc n) first last value d h e = ap (λ more. one ∷ more) (set-last (two ∷ rest) n first last value d (omega arith) e)

pub push-last : (spans : List (ℕ × ℕ × ℕ)) (first last value : ℕ) (d : ℕ × ℕ × ℕ) → ((n : ℕ) → n + 1 ≡ length spans → (get_or spans n d).2 ≢ value) → spans ++ (first, last, value) ∷ [] ≡ grown spans first last value
push-last [] first last value d h = refl
push-last (one ∷ []) first last value d h =
    let differs : one.2 ≢ value = h 0 (omega arith) in
    let test : (one.2 == value) ≡ false = grind (arith, nat_tests, differs) in
    sym (ap (λ (b : Bool). if b then (one.0, last, one.2) ∷ [] else one ∷ (first, last, value) ∷ []) test)
push-last (one ∷ two ∷ rest) first last value d h = ap (λ more. one ∷ more) (push-last (two ∷ rest) first last value d (λ n e. h (suc n) (omega arith)))

-- the changes that are passed by decide no value from a time on
pub record IsPassed (changes rest : List Change) (offset first : ℕ) : Type 0 where
  pub same : (t : ℕ) → first ≤ t → old_in changes offset t ≡ old_in rest offset t

pub pass-more : (changes rest : List Change) (offset first later : ℕ) (one : Change) → IsPassed changes (one ∷ rest) offset first → first ≤ later → ((t : ℕ) → later ≤ t → (one.offset == offset && nat_lt t one.time) ≡ false) → IsPassed changes rest offset later
pass-more changes rest offset first later one passed order none =
    record { same = λ t h. passed.same t (omega arith) ∙ ap (λ (b : Bool). if b then Some one.old else old_in rest offset t) (none t h) }

pub passed-value : (changes rest : List Change) (offset first present : ℕ) (one : Change) → IsPassed changes (one ∷ rest) offset first → one.offset ≡ offset → (t : ℕ) → first ≤ t → t < one.time → value_in changes offset present t ≡ one.old
passed-value changes rest offset first present one passed is t h k =
    let test : (one.offset == offset && nat_lt t one.time) ≡ true = grind (arith, nat_tests, is) in
    ap (λ found. unwrap_or found present) (passed.same t h ∙ ap (λ (b : Bool). if b then Some one.old else old_in rest offset t) test)

pub push-first : (spans : List (ℕ × ℕ × ℕ)) (first last value : ℕ) → length spans ≡ 0 → spans ++ (first, last, value) ∷ [] ≡ grown spans first last value
push-first [] first last value h = refl
push-first (one ∷ rest) first last value h = absurd (omega arith)

pub set-here : (spans : List (ℕ × ℕ × ℕ)) (n first last value : ℕ) (d : ℕ × ℕ × ℕ) → 0 < n → n ≡ length spans → d ≡ get_or spans (n - 1) d → d.2 ≡ value → set spans (n - 1) (d.0, last, d.2) ≡ grown spans first last value
set-here spans n first last value d some n_is d_is e =
    let at : (get_or spans (n - 1) d).2 ≡ value = ap (λ (one : ℕ × ℕ × ℕ). one.2) (sym d_is) ∙ e in
    ap (λ (one : ℕ × ℕ × ℕ). set spans (n - 1) (one.0, last, one.2)) d_is ∙ set-last spans (n - 1) first last value d (omega arith) at

pub push-here : (spans : List (ℕ × ℕ × ℕ)) (n first last value : ℕ) (d : ℕ × ℕ × ℕ) → n ≡ length spans → d ≡ get_or spans (n - 1) d → d.2 ≢ value → spans ++ (first, last, value) ∷ [] ≡ grown spans first last value
push-here spans n first last value d n_is d_is e =
    push-last spans first last value d (λ k h. let same : k ≡ n - 1 = omega arith in λ q. e (ap (λ (one : ℕ × ℕ × ℕ). one.2) d_is ∙ (ap (λ i. (get_or spans i d).2) (sym same) ∙ q)))

-- a change among others
drop_at : (changes : List Change) (i : ℕ) (one : Change) → i < length changes → one ≡ get_or changes i one → drop i changes ≡ one ∷ drop (i + 1) changes
drop_at changes i one h is = drop_more changes i one h ∙ ap (λ o. o ∷ drop (i + 1) changes) (sym is)

-- a pass over one change
pub passed_over : (changes : List Change) (offset first i : ℕ) (one : Change) → i < length changes → one ≡ get_or changes i one → IsPassed changes (drop i changes) offset first → (one.offset ≢ offset) ⊎ (one.time ≤ first) → IsPassed changes (drop (i + 1) changes) offset first
passed_over changes offset first i one h is passed (inl other) =
    pass-more changes (drop (i + 1) changes) offset first first one (subst (λ rest. IsPassed changes rest offset first) (drop_at changes i one h is) passed) (omega arith) (λ t k. grind (arith, nat_tests, other))
passed_over changes offset first i one h is passed (inr early) =
    pass-more changes (drop (i + 1) changes) offset first first one (subst (λ rest. IsPassed changes rest offset first) (drop_at changes i one h is) passed) (omega arith) (λ t k. grind (arith, nat_tests, early))

pub passed_at : (changes : List Change) (offset first i : ℕ) (one : Change) → i < length changes → one ≡ get_or changes i one → IsPassed changes (drop i changes) offset first → first < one.time → IsPassed changes (drop (i + 1) changes) offset one.time
passed_at changes offset first i one h is passed late =
    pass-more changes (drop (i + 1) changes) offset first one.time one (subst (λ rest. IsPassed changes rest offset first) (drop_at changes i one h is) passed) (omega arith) (λ t k. grind (arith, nat_tests))

-- a change's old value goes from the end of the spans up to before its time
pub goes_old : (changes : List Change) (offset first last present i : ℕ) (one : Change) → i < length changes → one ≡ get_or changes i one → IsPassed changes (drop i changes) offset first → one.offset ≡ offset → first ≤ last → last < one.time
    → Goes (value_in changes offset present) first last one.old
goes_old changes offset first last present i one h is passed same order late = record {
  order = order;
  same = λ t a b. passed-value changes (drop (i + 1) changes) offset first present one (subst (λ rest. IsPassed changes rest offset first) (drop_at changes i one h is) passed) same t a (omega arith);
}

pub goes_present : (changes : List Change) (offset first last present : ℕ) → IsPassed changes [] offset first → first ≤ last → Goes (value_in changes offset present) first last present
goes_present changes offset first last present passed order = record { order = order; same = λ t a b. ap (λ found. unwrap_or found present) (passed.same t a) }

pub any-default : {X : Type 0} (xs : List X) (n : ℕ) (d e : X) → n < length xs → get_or xs n d ≡ get_or xs n e
any-default [] n d e h = absurd (omega arith)
any-default (x ∷ xs) zero d e h = refl
any-default (x ∷ xs) (suc n) d e h = any-default xs n d e (omega arith)

-- two elements at one place
pub same-place : {X : Type 0} (xs : List X) (n : ℕ) (d e : X) → n < length xs → d ≡ get_or xs n d → e ≡ get_or xs n e → d ≡ e
same-place xs n d e h a b = a ∙ (any-default xs n d e h ∙ sym b)

pub spans_grow-before : (value : ℕ → ℕ) (low first time v : ℕ) (spans : List (ℕ × ℕ × ℕ)) → first < time → AreSpans value None low first spans → Goes value first (time - 1) v → AreSpans value None low time (grown spans first (time - 1) v)
spans_grow-before value low first time v spans h a g =
    let e : time - 1 + 1 ≡ time = omega arith in
    subst (λ end. AreSpans value None low end (grown spans first (time - 1) v)) e (spans_grow value low first (time - 1) v spans a g)
