-- Regions in the place of those around a range.
use Rattle.std.proofs.Common.{◌≡◌, ℕ, zero, suc, ◌+◌, ◌-◌, ◌<◌, ◌≤◌, inl, inr, Option, Some, None, List, [], ◌∷◌, ◌++◌, refl, sym, ap, ◌∙◌, subst, arith, take, drop, get_or, length, min}
use Rattle.std.specs.List.{between, splice}
use Rattle.std.specs.Prelude.{Result, Ok, Err, OnOk, OnErr}
use Rattle.std.specs.List.Sorted.{IsPartitionPoint}
use Rattle.std.proofs.lemmas.Bool.{cases_lt}
use Rattle.std.proofs.lemmas.List.{map-append, drop_all}
use Rattle.std.proofs.lemmas.List.Edits.{split_between}
use Rattle.paging_model.specs.Listings.{Stretch, AreApart, target_in, stretch_of_region}
use Rattle.paging_model.specs.Translations.{Target, Protection}
use Rattle.paging_model.specs.declared.spaces.Region.{Region}
use Rattle.region_map.specs.Coalesced.{AreCoalesced, AreWholePages, IsCopied, stretches, target_at}
use Rattle.region_map.specs.Parts.{AreAround}
use Rattle.region_map.proofs.Copied.{earlier-below, onward, some_region}
use Rattle.region_map.proofs.Indices.{range-at}
use Rattle.region_map.proofs.Joining.{AreCoalesced-rest}
use Rattle.region_map.proofs.Mapping.{AreCoalesced-front, never-both, none-up_to}
use Rattle.region_map.proofs.Seams.{IsEdited, edited-after, edited-before}

order-at : (items : List Region) (i : ℕ) (d : Region) → AreApart (stretches items) → suc i < length items
    → (get_or items i d).last < (get_or items (suc i) d).first
order-at [] i d apart within = absurd (omega arith)
order-at (one ∷ []) i d apart within = absurd (omega arith)
order-at (one ∷ two ∷ rest) zero d apart within = apart.0
order-at (one ∷ two ∷ rest) (suc i) d apart within = order-at (two ∷ rest) i d apart.2 (omega arith)

-- the places that two searches find
module _ (items : List Region) (first last n m : ℕ) (coalesced : AreCoalesced (stretches items)) (order : first < last)
    (n_within : n ≤ length items) (m_within : m ≤ length items)
    (n_point : IsPartitionPoint (λ (one : Region). one.last < first) (λ (one : Region). first ≤ one.last) items n)
    (m_point : IsPartitionPoint (λ (one : Region). one.last < last) (λ (one : Region). last ≤ one.last) items m) where
  in-order : n ≤ m
  in-order = elim (cases_lt m n) [
    | inl less ↦
        let low = n_point.0 m some_region (omega arith) less in
        let high = m_point.1 m some_region (omega arith) (omega (arith, less, n_within)) in
        absurd (omega (arith, low, high, order))
    | inr at_most ↦ at_most
  ]

  pub places-around : (from to : ℕ) → from ≡ n - 1 → to ≡ min (m + 2) (length items) → AreAround items first last from to
  places-around from to is_from is_to = record {
    order = omega (arith, in-order, is_from, is_to, n_within);
    within = omega (arith, is_to);
    before = λ d some. n_point.0 from d (omega arith) (omega (arith, is_from, some));
    after = λ d less.
        let at : to ≡ m + 2 = omega (arith, is_to, less) in
        let high = m_point.1 m d (omega arith) (omega (arith, at, less)) in
        let next = order-at items m d coalesced.apart (omega (arith, at, less)) in
        let e : to - 1 ≡ suc m = omega (arith, at) in
        subst (λ (k : ℕ). last < (get_or items k d).first) (sym e) (omega (arith, high, next));
    some = (λ some. omega (arith, in-order, is_from, is_to, n_within, some), λ less. omega (arith, in-order, is_from, is_to, less));
  }

module _ (items : List Region) (first last from to : ℕ) (coalesced : AreCoalesced (stretches items)) (around : AreAround items first last from to) where
  in-three : stretches items ≡ stretches (take from items) ++ (stretches (between from to items) ++ stretches (drop to items))
  in-three =
      ap stretches (split_between items from to around.order)
      ∙ (map-append stretch_of_region (take from items) (between from to items ++ drop to items)
      ∙ ap (λ (it : List (Stretch Protection)). stretches (take from items) ++ it) (map-append stretch_of_region (between from to items) (drop to items)))

  whole : AreCoalesced (stretches (take from items) ++ (stretches (between from to items) ++ stretches (drop to items)))
  whole = subst (λ (it : List (Stretch Protection)). AreCoalesced it) in-three coalesced

  later : AreCoalesced (stretches (between from to items) ++ stretches (drop to items))
  later = AreCoalesced-rest (stretches (take from items)) (stretches (between from to items) ++ stretches (drop to items)) whole

  pub between-coalesced : AreCoalesced (stretches (between from to items))
  between-coalesced = AreCoalesced-front (stretches (between from to items)) (stretches (drop to items)) later

  ends : (x : ℕ) (t : Target Protection) → target_at (take from items) x ≡ Some t → x + 1 < first
  ends x t is = elim (cases_lt 0 from) [
    | inl some ↦
        let there : from < length items = omega (arith, around.some.0 some, around.within) in
        let below = earlier-below items from some_region coalesced there x t is in
        let range = range-at items from some_region coalesced.ranges there in
        omega (arith, below, range.some, around.before some_region some)
    | inr none ↦
        let e : from ≡ 0 = omega arith in
        absurd (never-both t (target_at (take from items) x) is (ap (λ (k : ℕ). target_at (take k items) x) e))
  ]

  behind : (y : ℕ) (u : Target Protection) → target_at (drop to items) y ≡ Some u → last + 1 < y
  behind y u is = elim (cases_lt to (length items)) [
    | inl less ↦
        let some = around.some.1 less in
        let there : to - 1 < length items = omega (arith, some, less) in
        let e : to - 1 + 1 ≡ to = omega (arith, some) in
        let on = onward items (to - 1) some_region coalesced there in
        elim (cases_lt (get_or items (to - 1) some_region).last y) [
          | inl past ↦ omega (arith, past, on.ranges.0.some, around.after some_region less)
          | inr up_to ↦
              let none = none-up_to (stretch_of_region (get_or items (to - 1) some_region)) (stretches (drop (to - 1 + 1) items)) y on.ranges.1 on.apart up_to in
              absurd (never-both u (target_at (drop to items) y) is (sym (ap (λ (k : ℕ). target_at (drop k items) y) e) ∙ none))
        ]
    | inr all ↦
        absurd (never-both u (target_at (drop to items) y) is (ap (λ (it : List Region). target_at it y) (drop_all to items all)))
  ]

  -- a list in the place of those around the range
  pub replaced : (target : ℕ → Option (Target Protection)) (list new : List Region) → AreCoalesced (stretches list)
      → IsCopied first last target (target_at (between from to items)) (target_at list) → new ≡ splice items from to list
      → IsEdited first last target (stretches items) (stretches new)
  replaced target list new list_coalesced copied is =
      let parts : stretches new ≡ stretches (take from items) ++ (stretches list ++ stretches (drop to items)) =
      ap stretches is
      ∙ (map-append stretch_of_region (take from items) (list ++ drop to items)
      ∙ ap (λ (it : List (Stretch Protection)). stretches (take from items) ++ it) (map-append stretch_of_region list (drop to items))) in
      let edited =
      edited-after first last target (stretches (take from items)) (stretches (between from to items) ++ stretches (drop to items))
      (stretches list ++ stretches (drop to items)) whole ends
      (edited-before first last target (stretches (between from to items)) (stretches list) (stretches (drop to items)) later behind
      (record { coalesced = list_coalesced; copied = copied })) in
      subst (λ (it : List (Stretch Protection)). IsEdited first last target it (stretches new)) (sym in-three)
      (subst (λ (it : List (Stretch Protection)). IsEdited first last target
      (stretches (take from items) ++ (stretches (between from to items) ++ stretches (drop to items))) it) (sym parts) edited)

-- the same of lists that were read under other names
module _ (items one shown : List Region) (first last from to : ℕ) (coalesced : AreCoalesced (stretches items)) (one_is : one ≡ items)
    (shown_is : shown ≡ items) (around : AreAround one first last from to) where
  there : AreAround items first last from to
  there = subst (λ (it : List Region). AreAround it first last from to) one_is around

  pub outside-coalesced : AreCoalesced (stretches (between from to shown))
  outside-coalesced =
      subst (λ (it : List Region). AreCoalesced (stretches (between from to it))) (sym shown_is)
      (between-coalesced items first last from to coalesced there)

  pub put-edited : (inside other list put new : List Region) → inside ≡ other → put ≡ list → AreCoalesced (stretches list)
      → IsCopied first last (target_at inside) (target_at (between from to shown)) (target_at list) → new ≡ splice items from to put
      → IsEdited first last (target_at other) (stretches items) (stretches new)
  put-edited inside other list put new inside_is put_is list_coalesced copied is =
      replaced items first last from to coalesced there (target_at other) list new list_coalesced
      (subst (λ (it : List Region). IsCopied first last (target_at other) (target_at (between from to it)) (target_at list)) shown_is
      (subst (λ (it : List Region). IsCopied first last (target_at it) (target_at (between from to shown)) (target_at list)) inside_is copied))
      (is ∙ ap (λ (it : List Region). splice items from to it) put_is)

-- what follows from either outcome
pub on_either : {T E P Q R : Type 0} (r : Result T E) → (P → R) → (Q → R) → OnOk r P → OnErr r Q → R
on_either (Ok value) one other ok err = one ok
on_either (Err error) one other ok err = other err
