-- Times added to an entry.
use Rattle.std.proofs.Common.{◌≡◌, ℕ, zero, suc, ◌<◌, ◌≤◌, ◌&&◌, ◌⊎◌, inl, inr, Bool, true, false, List, [], ◌∷◌, ◌++◌, length, get_or, set, refl, sym, ap, ◌∙◌, subst, arith}
use Rattle.std.specs.Prelude.{◌||◌, ◌↔◌}
use Rattle.std.proofs.lemmas.Bool.Decides.{nat_tests}
use Rattle.history_model.specs.CachedTranslations.{Held}
use Rattle.time_sets.specs.Sets.{has_time, is_within}
use Rattle.past_entries.specs.declared.entries.PastEntry.{PastEntry}
use Rattle.past_entries.specs.declared.fills.Fill.{Fill}
use Rattle.past_entries.specs.Fills.{FitsLevel, held_of_fill}
use Rattle.past_entries.specs.PastEntries.{AllFitLevel, WasMade}

pub any-default : {X : Type 0} (xs : List X) (n : ℕ) (d e : X) → n < length xs → get_or xs n d ≡ get_or xs n e
any-default [] n d e h = absurd (omega arith)
any-default (x ∷ xs) zero d e h = refl
any-default (x ∷ xs) (suc n) d e h = any-default xs n d e (omega arith)

either : (a b : Bool) → (a || b) ≡ true → (a ≡ true) ⊎ (b ≡ true)
either true b h = inl refl
either false b h = inr h

or_left : (a b : Bool) → a ≡ true → (a || b) ≡ true
or_left true b h = refl
or_left false b h = absurd (cc)

or_right : (a b : Bool) → b ≡ true → (a || b) ≡ true
or_right true b h = refl
or_right false b h = h

module _ (made : Fill) (is_added : Bool) (e : Held) (t : ℕ) where
  pub push_to : (entries : List PastEntry) (one : PastEntry) → one.fill ≡ made → has_time one.times t ≡ is_added → WasMade (entries ++ one ∷ []) e t → WasMade entries e t ⊎ ((held_of_fill made ≡ e) × (is_added ≡ true))
  push_to [] one m q (inl h) = inr (ap held_of_fill (sym m) ∙ h.0, sym q ∙ h.1)
  push_to [] one m q (inr h) = absurd h
  push_to (x ∷ rest) one m q (inl h) = inl (inl h)
  push_to (x ∷ rest) one m q (inr h) = elim (push_to rest one m q h) [ inl a ↦ inl (inr a) | inr b ↦ inr b ]

  pub push_of : (entries : List PastEntry) (one : PastEntry) → one.fill ≡ made → has_time one.times t ≡ is_added → WasMade entries e t ⊎ ((held_of_fill made ≡ e) × (is_added ≡ true)) → WasMade (entries ++ one ∷ []) e t
  push_of [] one m q (inl h) = absurd h
  push_of [] one m q (inr h) = inl (ap held_of_fill m ∙ h.0, q ∙ h.1)
  push_of (x ∷ rest) one m q (inl (inl h)) = inl h
  push_of (x ∷ rest) one m q (inl (inr h)) = inr (push_of rest one m q (inl h))
  push_of (x ∷ rest) one m q (inr h) = inr (push_of rest one m q (inr h))

  pub set_to : (entries : List PastEntry) (place : ℕ) (d one : PastEntry) → place < length entries → (get_or entries place d).fill ≡ made → one.fill ≡ made → has_time one.times t ≡ (has_time (get_or entries place d).times t || is_added)
      → WasMade (set entries place one) e t → WasMade entries e t ⊎ ((held_of_fill made ≡ e) × (is_added ≡ true))
  set_to [] place d one h m n q s = absurd (omega arith)
  set_to (x ∷ rest) zero d one h m n q (inl s) = elim (either (has_time x.times t) is_added (sym q ∙ s.1)) [
    | inl a ↦ inl (inl (ap held_of_fill m ∙ (ap held_of_fill (sym n) ∙ s.0), a))
    | inr b ↦ inr (ap held_of_fill (sym n) ∙ s.0, b)
  ]
  set_to (x ∷ rest) zero d one h m n q (inr s) = inl (inr s)
  set_to (x ∷ rest) (suc place) d one h m n q (inl s) = inl (inl s)
  set_to (x ∷ rest) (suc place) d one h m n q (inr s) = elim (set_to rest place d one (omega arith) m n q s) [ inl a ↦ inl (inr a) | inr b ↦ inr b ]

  pub set_of : (entries : List PastEntry) (place : ℕ) (d one : PastEntry) → place < length entries → (get_or entries place d).fill ≡ made → one.fill ≡ made → has_time one.times t ≡ (has_time (get_or entries place d).times t || is_added)
      → WasMade entries e t ⊎ ((held_of_fill made ≡ e) × (is_added ≡ true)) → WasMade (set entries place one) e t
  set_of [] place d one h m n q s = absurd (omega arith)
  set_of (x ∷ rest) zero d one h m n q (inl (inl s)) = inl (ap held_of_fill n ∙ (ap held_of_fill (sym m) ∙ s.0), q ∙ or_left _ _ s.1)
  set_of (x ∷ rest) zero d one h m n q (inl (inr s)) = inr s
  set_of (x ∷ rest) zero d one h m n q (inr s) = inl (ap held_of_fill n ∙ s.0, q ∙ or_right _ _ s.1)
  set_of (x ∷ rest) (suc place) d one h m n q (inl (inl s)) = inl s
  set_of (x ∷ rest) (suc place) d one h m n q (inl (inr s)) = inr (set_of rest place d one (omega arith) m n q (inl s))
  set_of (x ∷ rest) (suc place) d one h m n q (inr s) = inr (set_of rest place d one (omega arith) m n q (inr s))

-- the times of a set that lie in a range
in_part : (range : ℕ × ℕ) (at : List (ℕ × ℕ)) (t : ℕ) → (is_within range t && has_time at t) ≡ true → (range.0 ≤ t) × (t ≤ range.1) × (has_time at t ≡ true)
in_part range at t is = (grind (arith, nat_tests, is), grind (arith, nat_tests, is), grind (arith, nat_tests, is))

of_part : (range : ℕ × ℕ) (at : List (ℕ × ℕ)) (t : ℕ) → range.0 ≤ t → t ≤ range.1 → has_time at t ≡ true → (is_within range t && has_time at t) ≡ true
of_part range at t from until in_set = grind (arith, nat_tests, from, until, in_set)

pub part-added : (New Old Same : Type 0) (range : ℕ × ℕ) (at : List (ℕ × ℕ)) (t : ℕ) → (New ↔ (Old ⊎ (Same × ((is_within range t && has_time at t) ≡ true))))
    → New ↔ (Old ⊎ (Same × (range.0 ≤ t) × (t ≤ range.1) × (has_time at t ≡ true)))
part-added New Old Same range at t both = (
  (λ new. elim (both.0 new) [ inl old ↦ inl old | inr added ↦ let part = in_part range at t added.1 in inr (added.0, part.0, part.1, part.2) ]),
  (λ either. both.1 (elim either [ inl old ↦ inl old | inr added ↦ inr (added.0, of_part range at t added.1 added.2 added.3) ])),
)

pub made-there : (entries : List PastEntry) (place : ℕ) (d one : PastEntry) (made : Fill) → place < length entries → one ≡ get_or entries place one → one.fill ≡ made → (get_or entries place d).fill ≡ made
made-there entries place d one made h is same = ap (λ (g : PastEntry). g.fill) (any-default entries place d one h ∙ sym is) ∙ same

pub times-there : (entries : List PastEntry) (place : ℕ) (d one : PastEntry) (t : ℕ) → place < length entries → one ≡ get_or entries place one → has_time one.times t ≡ has_time (get_or entries place d).times t
times-there entries place d one t h is = ap (λ (g : PastEntry). has_time g.times t) (is ∙ any-default entries place one d h)

module _ (level : ℕ) (made : Fill) (fits : FitsLevel level made) where
  fits-same : (other : Fill) → other ≡ made → FitsLevel level other
  fits-same other e = subst (λ m. FitsLevel level m) (sym e) fits

  pub fitting-push : (entries : List PastEntry) (one : PastEntry) → one.fill ≡ made → AllFitLevel level entries → AllFitLevel level (entries ++ one ∷ [])
  fitting-push [] one e f = (fits-same one.fill e, tt)
  fitting-push (x ∷ rest) one e f = (f.0, fitting-push rest one e f.1)

  pub fitting-set : (entries : List PastEntry) (place : ℕ) (one : PastEntry) → one.fill ≡ made → AllFitLevel level entries → AllFitLevel level (set entries place one)
  fitting-set [] place one e f = f
  fitting-set (x ∷ rest) zero one e f = (fits-same one.fill e, f.1)
  fitting-set (x ∷ rest) (suc place) one e f = (f.0, fitting-set rest place one e f.1)
