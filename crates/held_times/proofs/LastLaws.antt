-- The last time of a set, and that it tells what is held now.
use Rattle.std.proofs.Common.{◌≡◌, ℕ, zero, suc, ◌+◌, ◌<◌, ◌≤◌, inl, inr, Bool, true, false, List, [], ◌∷◌, length, get_or, Some, None, arith}
use Rattle.std.specs.Prelude.{◌↔◌, IsTrue}
use Rattle.std.proofs.lemmas.Bool.Decides.{nat_tests}
use Rattle.time_sets.specs.Sets.{has_time, is_within, AreApartFrom}
use Rattle.held_times.specs.HeldTimes.{IsHeldAt, IsLastTime}
use Rattle.held_times.proofs.HeldLaws.{either, interval-at}

last-bound : (low : ℕ) (list : List (ℕ × ℕ)) (k : ℕ) (d : ℕ × ℕ) (t : ℕ) → AreApartFrom low list → length list ≡ suc k
    → has_time list t ≡ true → (low ≤ (get_or list k d).1) × (t ≤ (get_or list k d).1)
last-bound low [] k d t apart h is = absurd (omega (arith, h))
last-bound low (one ∷ []) zero d t apart h is =
    let l = apart.0 in let o = apart.1 in
    elim (either (is_within one t) false is) [ inl w ↦ (omega (arith, l, o), grind (arith, nat_tests, w)) | inr n ↦ absurd (cc) ]
last-bound low (one ∷ []) (suc k) d t apart h is = absurd (omega (arith, h))
last-bound low (one ∷ two ∷ rest) zero d t apart h is = absurd (omega (arith, h))
last-bound low (one ∷ two ∷ rest) (suc k) d t apart h is =
    let l = apart.0 in let o = apart.1 in
    let own = last-bound (one.1 + 2) (two ∷ rest) k d two.0 apart.2 (omega (arith, h)) (let r = apart.2.1 in grind (arith, nat_tests, r)) in
    let ends = own.0 in
    elim (either (is_within one t) (has_time (two ∷ rest) t) is) [
      | inl w ↦ let u : t ≤ one.1 = grind (arith, nat_tests, w) in (omega (arith, l, o, ends), omega (arith, u, ends))
      | inr w ↦ let later = last-bound (one.1 + 2) (two ∷ rest) k d t apart.2 (omega (arith, h)) w in
          let u = later.1 in (omega (arith, l, o, ends), u)
    ]

pub last-time : (list : List (ℕ × ℕ)) (k : ℕ) (d : ℕ × ℕ) → AreApartFrom 0 list → length list ≡ suc k
    → IsLastTime list (Some (get_or list k d).1)
last-time list k d apart h =
    ((interval-at 0 list k d apart (omega (arith, h))).1, λ t is. (last-bound 0 list k d t apart h is).1)

not-true : IsTrue false → ⊥
not-true h = absurd (cc)

clash : (b : Bool) → b ≡ true → b ≡ false → ⊥
clash b is is-not = absurd (cc)

pub held-last : (is_taken : ℕ → Bool) (made : List (ℕ × ℕ)) (now last : ℕ) (b : Bool) → IsLastTime made (Some last)
    → ((t : ℕ) → has_time made t ≡ true → t ≤ now) → IsTrue b ↔ ((v : ℕ) → last < v → v ≤ now → is_taken v ≡ false)
    → IsTrue b ↔ IsHeldAt is_taken made now now
held-last is_taken made now last b is within spared = (
  (λ h. record { t = last; is_made = is.0; order = within last is.0; within = omega arith; spared = spared.0 h }),
  (λ (k : IsHeldAt is_taken made now now).
      let before : k.t ≤ last = is.1 k.t k.is_made in spared.1 (λ v p q. k.spared v (omega (arith, before, p)) q)),
)

pub held-none : (is_taken : ℕ → Bool) (made : List (ℕ × ℕ)) (now : ℕ) → IsLastTime made None
    → IsTrue false ↔ IsHeldAt is_taken made now now
held-none is_taken made now none =
    ((λ h. absurd (not-true h)), (λ (k : IsHeldAt is_taken made now now). absurd (clash (has_time made k.t) k.is_made (none k.t))))
