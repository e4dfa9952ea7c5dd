-- What stands in lists that are put together.
use Rattle.std.proofs.Common.{◌≡◌, ℕ, zero, suc, ◌+◌, ◌<◌, ◌≤◌, ◌⊎◌, inl, inr, List, [], ◌∷◌, ◌++◌, refl, subst, arith}
use Rattle.std.specs.Prelude.{flat_map}
use Rattle.std.specs.List.{range_with_len}
use Rattle.std.proofs.lemmas.Bool.{cases_lt}
use Rattle.paging_model.specs.Counting.{IsIn, AreDistinct, AreAll}

-- the list of one of these numbers has the thing
pub record InOne {Thing : Type 0} (each : ℕ → List Thing) (from count : ℕ) (x : Thing) : Type 0 where
  pub number : ℕ
  pub least : from ≤ number
  pub less : number < from + count
  pub is_in : IsIn x (each number)

module _ {Thing : Type 0} where
  pub in-append : (xs ys : List Thing) (x : Thing) → IsIn x (xs ++ ys) → (IsIn x xs ⊎ IsIn x ys)
  in-append [] ys x is = inr is
  in-append (one ∷ xs) ys x (inl same) = inl (inl same)
  in-append (one ∷ xs) ys x (inr is) = elim (in-append xs ys x is) [ inl left ↦ inl (inr left) | inr right ↦ inr right ]

  pub append-left : (xs ys : List Thing) (x : Thing) → IsIn x xs → IsIn x (xs ++ ys)
  append-left [] ys x is = absurd is
  append-left (one ∷ xs) ys x (inl same) = inl same
  append-left (one ∷ xs) ys x (inr is) = inr (append-left xs ys x is)

  pub append-right : (xs ys : List Thing) (x : Thing) → IsIn x ys → IsIn x (xs ++ ys)
  append-right [] ys x is = is
  append-right (one ∷ xs) ys x is = inr (append-right xs ys x is)

  pub distinct-append : (xs ys : List Thing) → AreDistinct xs → AreDistinct ys
      → ((x : Thing) → IsIn x xs → IsIn x ys → ⊥) → AreDistinct (xs ++ ys)
  distinct-append [] ys d e apart = e
  distinct-append (one ∷ xs) ys d e apart = (
    λ is. elim (in-append xs ys one is) [ inl left ↦ d.0 left | inr right ↦ apart one (inl refl) right ],
    distinct-append xs ys d.1 e (λ x is there. apart x (inr is) there),
  )

  pub in-flat_map : (each : ℕ → List Thing) (from count : ℕ) (x : Thing)
      → IsIn x (flat_map each (range_with_len from count)) → InOne each from count x
  in-flat_map each from zero x is = absurd is
  in-flat_map each from (suc n) x is =
      elim (in-append (each from) (flat_map each (range_with_len (from + 1) n)) x is) [
        | inl here ↦ record { number = from; least = omega arith; less = omega arith; is_in = here }
        | inr later ↦
            let it = in-flat_map each (from + 1) n x later in
            record { number = it.number; least = omega (arith, it.least); less = omega (arith, it.less); is_in = it.is_in }
      ]

  pub flat_map-in : (each : ℕ → List Thing) (from count i : ℕ) (x : Thing) → from ≤ i → i < from + count
      → IsIn x (each i) → IsIn x (flat_map each (range_with_len from count))
  flat_map-in each from zero i x least less is = absurd (omega arith)
  flat_map-in each from (suc n) i x least less is = elim (cases_lt from i) [
    | inl after ↦
        append-right (each from) (flat_map each (range_with_len (from + 1) n)) x
        (flat_map-in each (from + 1) n i x (omega arith) (omega arith) is)
    | inr first ↦
        let same : i ≡ from = omega arith in
        append-left (each from) (flat_map each (range_with_len (from + 1) n)) x (subst (λ (k : ℕ). IsIn x (each k)) same is)
  ]

  pub distinct-flat_map : (each : ℕ → List Thing) (from count : ℕ)
      → ((i : ℕ) → from ≤ i → i < from + count → AreDistinct (each i))
      → ((i j : ℕ) (x : Thing) → from ≤ i → i < j → j < from + count → IsIn x (each i) → IsIn x (each j) → ⊥)
      → AreDistinct (flat_map each (range_with_len from count))
  distinct-flat_map each from zero distinct apart = tt
  distinct-flat_map each from (suc n) distinct apart =
      distinct-append (each from) (flat_map each (range_with_len (from + 1) n))
      (distinct from (omega arith) (omega arith))
      (distinct-flat_map each (from + 1) n (λ i least less. distinct i (omega arith) (omega arith))
      (λ i j x least less last one other. apart i j x (omega arith) less (omega arith) one other))
      (λ x here later.
      let it = in-flat_map each (from + 1) n x later in
      apart from it.number x (omega arith) (omega (arith, it.least)) (omega (arith, it.less)) here it.is_in)

-- all things of two kinds that have nothing in common are those of the one kind and then those of the other
pub all-append : {Thing : Type 0} {First Second Has : Thing → Type 0} (firsts seconds : List Thing) → AreAll First firsts → AreAll Second seconds
    → ((x : Thing) → Has x → (First x ⊎ Second x)) → ((x : Thing) → First x → Has x) → ((x : Thing) → Second x → Has x)
    → ((x : Thing) → First x → Second x → ⊥) → AreAll Has (firsts ++ seconds)
all-append firsts seconds all_firsts all_seconds either has has' apart = record {
  some = record {
    have = λ x is. elim (in-append firsts seconds x is) [
      | inl first ↦ has x (all_firsts.some.have x first)
      | inr second ↦ has' x (all_seconds.some.have x second)
    ];
    distinct =
        distinct-append firsts seconds all_firsts.some.distinct all_seconds.some.distinct
        (λ x first second. apart x (all_firsts.some.have x first) (all_seconds.some.have x second));
  };
  all = λ x is. elim (either x is) [
    | inl first ↦ append-left firsts seconds x (all_firsts.all x first)
    | inr second ↦ append-right firsts seconds x (all_seconds.all x second)
  ];
}
