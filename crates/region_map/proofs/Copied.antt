-- Copies of a range, region by region.
use Rattle.std.proofs.Common.{false, ◌≡◌, ℕ, zero, suc, ◌+◌, ◌<◌, ◌≤◌, ◌⊎◌, inl, inr, Option, Some, None, List, [], ◌∷◌, ◌++◌, refl, sym, ap, ◌∙◌, subst, arith, take, drop, get_or, length}
use Rattle.std.proofs.lemmas.Bool.{cases_lt}
use Rattle.std.proofs.lemmas.List.{map-append, drop_more, take_more}
use Rattle.paging_model.specs.Listings.{Stretch, target_in, stretch_of_region}
use Rattle.paging_model.specs.Translations.{Target, Protection}
use Rattle.paging_model.specs.declared.spaces.Region.{Region}
use Rattle.region_map.specs.Coalesced.{ArePageRanges, AreCoalesced, IsCopied, IsFilled, range_target, stretches, target_at}
use Rattle.region_map.specs.Parts.{IsPartIn}
use Rattle.region_map.proofs.Indices.{drop-coalesced, parts-at, range-at}
use Rattle.region_map.proofs.Joining.{target_in-outside, target_in-within}
use Rattle.region_map.proofs.Mapping.{none-below, none-of, none-past, target_in-after_none, target_in-before_none}
use Rattle.region_map.proofs.Seams.{part-order}

abbrev pub some_region : Region
some_region = record { first = 0; last = 0; frame = 0; bits = record { write = false; user = false; xd = false }; key = 0 }

-- where the other map is another one that says the same in the range
pub copied-as : (first last : ℕ) (one other old new : ℕ → Option (Target Protection)) → ((x : ℕ) → first ≤ x → x ≤ last → one x ≡ other x)
    → IsCopied first last one old new → IsCopied first last other old new
copied-as first last one other old new same copied = record {
  inside = λ x from to. copied.inside x from to ∙ same x from to;
  outside = copied.outside;
}

outside-of : (one : Stretch Protection) (x : ℕ) → (one.first ≤ x → x ≤ one.last → ⊥) → (x < one.first) ⊎ (one.last < x)
outside-of one x never = elim (cases_lt x one.first) [
  | inl before ↦ inl before
  | inr from ↦ elim (cases_lt one.last x) [ inl after ↦ inr after | inr to ↦ absurd (never from to) ]
]

-- what ends before an address doesn't hold it
skipped-none : (items : List Region) (n x : ℕ) → ((k : ℕ) (d : Region) → k < n → k < length items → (get_or items k d).last < x)
    → target_at (take n items) x ≡ None
skipped-none items zero x before = refl
skipped-none [] (suc n) x before = refl
skipped-none (one ∷ rest) (suc n) x before =
    target_in-outside (stretch_of_region one) (stretches (take n rest)) x (inr (before 0 one (omega arith) (omega arith)))
    ∙ skipped-none rest n x (λ k d high within. before (suc k) d (omega arith) (omega arith))

skipped-same : (items : List Region) (n first x : ℕ) → ((k : ℕ) (d : Region) → 0 ≤ k → k < n → (get_or items k d).last < first) → first ≤ x
    → target_at (drop n items) x ≡ target_at items x
skipped-same items n first x before from =
    let none = skipped-none items n x (λ k d high within. omega (arith, before k d (omega arith) high)) in
    sym (ap (λ (it : List (Stretch Protection)). target_in it x) (parts-at items n)
    ∙ target_in-before_none (stretches (take n items)) (stretches (drop n items)) x none)

-- the rest of a list, under a name of its own
pub rest-coalesced : (items rest : List Region) (n : ℕ) → rest ≡ drop n items → AreCoalesced (stretches items) → AreCoalesced (stretches rest)
rest-coalesced items rest n is coalesced =
    subst (λ (it : List Region). AreCoalesced (stretches it)) (sym is) (drop-coalesced items n coalesced)

pub rest-same : (items rest : List Region) (n : ℕ) → rest ≡ drop n items → (first x : ℕ)
    → ((k : ℕ) (d : Region) → 0 ≤ k → k < n → (get_or items k d).last < first) → first ≤ x → target_at rest x ≡ target_at items x
rest-same items rest n is first x before from =
    ap (λ (it : List Region). target_at it x) is ∙ skipped-same items n first x before from

-- up to the last address it is all that a list maps
pub after-copied : (last : ℕ) (list : List Region) (old new : ℕ → Option (Target Protection)) → ArePageRanges (stretches list)
    → ((x : ℕ) → last < x → old x ≡ None) → IsCopied (last + 1) 0xFFFF_FFFF_FFFF_FFFF (target_at list) old new
    → (x : ℕ) → last < x → new x ≡ target_at list x
after-copied last list old new ranges none copied x after = elim (cases_lt 0xFFFF_FFFF_FFFF_FFFF x) [
  | inr within ↦ copied.inside x (omega arith) within
  | inl past ↦ copied.outside x (inr past) ∙ (none x after ∙ sym (none-past (stretches list) x ranges (omega arith)))
]

-- a region of a list, and what stands before it
module _ (items : List Region) (i : ℕ) (d : Region) (coalesced : AreCoalesced (stretches items)) (there : i < length items) where
  abbrev region : Region
  region = get_or items i d

  pub from-region : stretches (drop i items) ≡ stretch_of_region region ∷ stretches (drop (i + 1) items)
  from-region = ap stretches (drop_more items i d there)

  pub onward : AreCoalesced (stretch_of_region region ∷ stretches (drop (i + 1) items))
  onward = subst (λ (it : List (Stretch Protection)). AreCoalesced it) from-region (drop-coalesced items i coalesced)

  begins-there : target_at (drop i items) region.first ≡ Some (range_target (stretch_of_region region) region.first)
  begins-there =
      ap (λ (it : List (Stretch Protection)). target_in it region.first) from-region
      ∙ target_in-within (stretch_of_region region) (stretches (drop (i + 1) items)) region.first (omega arith) (omega (arith, onward.ranges.0.some))

  pub earlier-below : (x : ℕ) (t : Target Protection) → target_at (take i items) x ≡ Some t → x < region.first
  earlier-below x t is =
      part-order (stretches (take i items)) (stretches (drop i items)) x region.first t (range_target (stretch_of_region region) region.first)
      (subst (λ (it : List (Stretch Protection)). AreCoalesced it) (parts-at items i) coalesced) is begins-there

  pub earlier-none : (x : ℕ) → region.first ≤ x → target_at (take i items) x ≡ None
  earlier-none x from = none-of (target_at (take i items) x) (λ t is. omega (arith, earlier-below x t is, from))

  -- all that is mapped before the region stands before it
  pub earlier-same : (x : ℕ) → x < region.first → target_at (take i items) x ≡ target_at items x
  earlier-same x before =
      let none : target_at (drop i items) x ≡ None =
      ap (λ (it : List (Stretch Protection)). target_in it x) from-region ∙ none-below (stretch_of_region region) (stretches (drop (i + 1) items)) x onward before in
      sym (ap (λ (it : List (Stretch Protection)). target_in it x) (parts-at items i)
      ∙ target_in-after_none (stretches (take i items)) (stretches (drop i items)) x none)

  with-region : (x : ℕ) → target_at (take (i + 1) items) x ≡ target_in (stretches (take i items) ++ stretch_of_region region ∷ []) x
  with-region x =
      ap (λ (it : List (Stretch Protection)). target_in it x)
      (ap stretches (take_more items i d there) ∙ map-append stretch_of_region (take i items) (region ∷ []))

  outside-region : (x : ℕ) → ((x < region.first) ⊎ (region.last < x)) → target_at (take i items) x ≡ target_at (take (i + 1) items) x
  outside-region x out =
      sym (with-region x
      ∙ target_in-after_none (stretches (take i items)) (stretch_of_region region ∷ []) x (target_in-outside (stretch_of_region region) [] x out))

  in-region : (x : ℕ) → region.first ≤ x → x ≤ region.last → target_at (take (i + 1) items) x ≡ Some (range_target (stretch_of_region region) x)
  in-region x from to =
      with-region x
      ∙ (target_in-before_none (stretches (take i items)) (stretch_of_region region ∷ []) x (earlier-none x from)
      ∙ target_in-within (stretch_of_region region) [] x from to)

  -- the region's part of a range is filled in
  pub copied-next : (first last : ℕ) (part : Region) (old now next : ℕ → Option (Target Protection))
      → IsPartIn first last (stretch_of_region region) (stretch_of_region part) → IsCopied first last (target_at (take i items)) old now
      → IsFilled (stretch_of_region part) now next → IsCopied first last (target_at (take (i + 1) items)) old next
  copied-next first last part old now next is_part copied filled = record {
    inside = λ x from to. elim (cases_lt x part.first) [
      | inl before ↦
          filled.outside x (inl before)
          ∙ (copied.inside x from to
          ∙ outside-region x (outside-of (stretch_of_region region) x (λ low high. omega (arith, (is_part.all x from to low high).0, before))))
      | inr begun ↦ elim (cases_lt part.last x) [
        | inl after ↦
            filled.outside x (inr after)
            ∙ (copied.inside x from to
            ∙ outside-region x (outside-of (stretch_of_region region) x (λ low high. omega (arith, (is_part.all x from to low high).1, after))))
        | inr within ↦
            let inner = is_part.within x begun within in
            filled.inside x begun within ∙ (ap Some (is_part.same x begun) ∙ sym (in-region x inner.2 inner.3))
      ]
    ];
    outside = λ x out.
        filled.outside x (outside-of (stretch_of_region part) x (λ low high.
        let inner = is_part.within x low high in
        elim out [ inl before ↦ omega (arith, inner.0, before) | inr after ↦ omega (arith, inner.1, after) ]))
        ∙ copied.outside x out;
  }

  -- no address of the region's part is mapped yet
  pub part-unmapped : (first last : ℕ) (part : Region) (old now : ℕ → Option (Target Protection))
      → IsPartIn first last (stretch_of_region region) (stretch_of_region part) → IsCopied first last (target_at (take i items)) old now
      → (x : ℕ) → part.first ≤ x → x ≤ part.last → now x ≡ None
  part-unmapped first last part old now is_part copied x low high =
      let inner = is_part.within x low high in
      copied.inside x inner.0 inner.1 ∙ earlier-none x inner.2
