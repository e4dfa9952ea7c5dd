-- What spans of values make, span by span, and over spans that cover some times.
use Rattle.std.proofs.Common.{◌≡◌, ℕ, ◌+◌, ◌<◌, ◌≤◌, ◌⊎◌, inl, inr, Bool, true, false, List, [], ◌∷◌, ◌++◌, length, get_or, take, drop, Option, Some, None, refl, sym, ap, ◌∙◌, subst, arith}
use Rattle.std.specs.Prelude.{◌↔◌, nat_le}
use Rattle.std.proofs.lemmas.List.{take_more, drop_more}
use Rattle.std.proofs.lemmas.Bool.Decides.{nat_tests}
use Rattle.history_model.specs.CachedTranslations.{Held}
use Rattle.time_sets.specs.Sets.{has_time}
use Rattle.past_entries.specs.declared.fills.Fill.{Fill}
use Rattle.past_entries.specs.Fills.{held_of_fill}
use Rattle.past_entries.specs.ValueSpans.{AreInOrder, MakesDuring, SpansMake, ValueMakes}
use Rattle.version_store.specs.Spanning.{AreSpans, IsSpan}

some-is : (one other : Held) → Some one ≡ Some other → one ≡ other
some-is one other h = cc

none-makes : (made : Option Held) (held : Held) → None ≡ made → made ≡ Some held → ⊥
none-makes made held none some = absurd (cc)

-- one span more at the end
module _ (makes : ℕ → Option Held) (at : List (ℕ × ℕ)) (span : ℕ × ℕ × ℕ) (held : Held) (t : ℕ) where
  spans-or-last : (spans : List (ℕ × ℕ × ℕ))
      → SpansMake makes at (spans ++ span ∷ []) held t → SpansMake makes at spans held t ⊎ MakesDuring makes at span held t
  spans-or-last [] (inl h) = inr h
  spans-or-last [] (inr h) = absurd h
  spans-or-last (x ∷ rest) (inl h) = inl (inl h)
  spans-or-last (x ∷ rest) (inr h) = elim (spans-or-last rest h) [ inl a ↦ inl (inr a) | inr b ↦ inr b ]

  of-spans-or-last : (spans : List (ℕ × ℕ × ℕ))
      → SpansMake makes at spans held t ⊎ MakesDuring makes at span held t → SpansMake makes at (spans ++ span ∷ []) held t
  of-spans-or-last [] (inl h) = absurd h
  of-spans-or-last [] (inr h) = inl h
  of-spans-or-last (x ∷ rest) (inl (inl h)) = inl h
  of-spans-or-last (x ∷ rest) (inl (inr h)) = inr (of-spans-or-last rest (inl h))
  of-spans-or-last (x ∷ rest) (inr h) = inr (of-spans-or-last rest (inr h))

pub order-at : (spans : List (ℕ × ℕ × ℕ)) (k : ℕ) (d : ℕ × ℕ × ℕ) → k < length spans → AreInOrder (drop k spans)
    → ((get_or spans k d).0 ≤ (get_or spans k d).1) × AreInOrder (drop (k + 1) spans)
order-at spans k d h order =
    let head : AreInOrder (get_or spans k d ∷ drop (k + 1) spans) = subst AreInOrder (drop_more spans k d h) order in
    (head.0, head.1)

-- a step of the loop over the spans: what was made so far is `Old`, and with one span more it is `New`
module _ (makes : ℕ → Option Held) (at : List (ℕ × ℕ)) (Old New : Held → ℕ → Type 0) (spans : List (ℕ × ℕ × ℕ)) (k : ℕ)
    (d : ℕ × ℕ × ℕ) (within : k < length spans)
    (so_far : (held : Held) (t : ℕ) → Old held t ↔ SpansMake makes at (take k spans) held t) where
  abbrev span : ℕ × ℕ × ℕ
  span = get_or spans k d

  abbrev Added : Fill → Held → ℕ → Type 0
  Added fill held t = (held_of_fill fill ≡ held) × (span.0 ≤ t) × (t ≤ span.1) × (has_time at t ≡ true)

  pub span-some : (fill : Fill) → Some (held_of_fill fill) ≡ makes span.2
      → ((held : Held) (t : ℕ) → New held t ↔ (Old held t ⊎ Added fill held t))
      → (held : Held) (t : ℕ) → New held t ↔ SpansMake makes at (take (k + 1) spans) held t
  span-some fill is new held t =
      let more : take (k + 1) spans ≡ take k spans ++ span ∷ [] = take_more spans k d within in (
        (λ n. subst (λ list. SpansMake makes at list held t) (sym more) (of-spans-or-last makes at span held t (take k spans)
            (elim ((new held t).0 n) [
              | inl o ↦ inl ((so_far held t).0 o)
              | inr h ↦ inr (sym is ∙ ap Some h.0, h.1, h.2, h.3)
            ]))),
        (λ m. (new held t).1 (elim (spans-or-last makes at span held t (take k spans)
            (subst (λ list. SpansMake makes at list held t) more m)) [
              | inl o ↦ inl ((so_far held t).1 o)
              | inr h ↦ inr (some-is (held_of_fill fill) held (is ∙ h.0), h.1, h.2, h.3)
            ])),
      )

  pub span-none : ◌≡◌ {A = Option Held} None (makes span.2)
      → (held : Held) (t : ℕ) → Old held t ↔ SpansMake makes at (take (k + 1) spans) held t
  span-none none held t =
      let more : take (k + 1) spans ≡ take k spans ++ span ∷ [] = take_more spans k d within in (
        (λ o. subst (λ list. SpansMake makes at list held t) (sym more)
            (of-spans-or-last makes at span held t (take k spans) (inl ((so_far held t).0 o)))),
        (λ m. elim (spans-or-last makes at span held t (take k spans)
            (subst (λ list. SpansMake makes at list held t) more m)) [
              | inl o ↦ (so_far held t).1 o
              | inr h ↦ absurd (none-makes (makes span.2) held none h.0)
            ]),
      )

spans-end : (value : ℕ → ℕ) (before : Option ℕ) (low end : ℕ) (spans : List (ℕ × ℕ × ℕ))
    → AreSpans value before low end spans → low ≤ end
spans-end value before low end [] are = omega (arith, are)
spans-end value before low end (span ∷ rest) are =
    let one : IsSpan value low span = are.0 in
    let later = spans-end value (Some span.2) (span.1 + 1) end rest are.2 in
    let begins = one.begins in let order = one.order in omega (arith, later, begins, order)

-- spans that cover the times from one up to before another
module _ (makes : ℕ → Option Held) (value : ℕ → ℕ) (at : List (ℕ × ℕ)) (held : Held) (t : ℕ) where
  pub spans-value : (before : Option ℕ) (low end : ℕ) (spans : List (ℕ × ℕ × ℕ)) → AreSpans value before low end spans
      → SpansMake makes at spans held t → ValueMakes makes value at low end held t
  spans-value before low end [] are h = absurd h
  spans-value before low end (span ∷ rest) are (inl h) =
      let one : IsSpan value low span = are.0 in
      let later = spans-end value (Some span.2) (span.1 + 1) end rest are.2 in
      let begins = one.begins in let from = h.1 in let until = h.2 in
      record {
        least = omega (arith, begins, from);
        below = omega (arith, later, until);
        in_set = h.3;
        made = ap makes (one.same t h.1 h.2) ∙ h.0;
      }
  spans-value before low end (span ∷ rest) are (inr h) =
      let one : IsSpan value low span = are.0 in
      let later : ValueMakes makes value at (span.1 + 1) end held t =
      spans-value (Some span.2) (span.1 + 1) end rest are.2 h in
      let begins = one.begins in let order = one.order in let least = later.least in
      record { least = omega (arith, begins, order, least); below = later.below; in_set = later.in_set; made = later.made }

  pub value-spans : (before : Option ℕ) (low end : ℕ) (spans : List (ℕ × ℕ × ℕ)) → AreSpans value before low end spans
      → ValueMakes makes value at low end held t → SpansMake makes at spans held t
  value-spans before low end [] are m = let least = m.least in let below = m.below in absurd (omega (arith, are, least, below))
  value-spans before low end (span ∷ rest) are m =
      by_test (nat_le t span.1) refl (value-spans (Some span.2) (span.1 + 1) end rest are.2)
    where
      by_test : (b : Bool) → nat_le t span.1 ≡ b
          → (ValueMakes makes value at (span.1 + 1) end held t → SpansMake makes at rest held t)
          → SpansMake makes at (span ∷ rest) held t
      by_test true is later =
          let one : IsSpan value low span = are.0 in
          let begins = one.begins in let least = m.least in
          let from : span.0 ≤ t = omega (arith, begins, least) in
          let until : t ≤ span.1 = grind (arith, nat_tests, is) in
          inl (sym (ap makes (one.same t from until)) ∙ m.made, from, until, m.in_set)
      by_test false is later = inr (later (record {
        least = grind (arith, nat_tests, is);
        below = m.below;
        in_set = m.in_set;
        made = m.made;
      }))
