-- What is mapped after two regions were filled in, as tests do.
use Rattle.std.proofs.Common.{◌≡◌, ℕ, ◌<◌, ◌≤◌, inl, inr, Option, Some, None, List, [], sym, ap, ◌∙◌, subst, refl, Bool}
use Rattle.std.specs.Prelude.{All, IsTrue}
use Rattle.std.proofs.lemmas.Bool.{cases_lt}
use Rattle.paging_model.specs.LinearAddress.{is_canonical}
use Rattle.paging_model.specs.Listings.{AreStretches, stretch_of_region}
use Rattle.paging_model.specs.Translations.{Target, Protection}
use Rattle.paging_model.specs.declared.spaces.Region.{Region}
use Rattle.region_map.specs.Coalesced.{AreCoalesced, IsFilled, range_target, stretches, target_at}
use Rattle.area_list.proofs.Listed.{are-stretches, key-at}

module _ (one other : Region) (old few all : List Region) (empty : old ≡ [])
    (first : IsFilled (stretch_of_region one) (target_at old) (target_at few)) (second : IsFilled (stretch_of_region other) (target_at few) (target_at all)) where
  of_two : (Holds : Option (Target Protection) → Type 0) (x : ℕ) → Holds None
      → (one.first ≤ x → x ≤ one.last → Holds (Some (range_target (stretch_of_region one) x)))
      → (other.first ≤ x → x ≤ other.last → Holds (Some (range_target (stretch_of_region other) x))) → Holds (target_at all x)
  of_two Holds x none in_one in_other =
      let nothing : target_at old x ≡ None = ap (λ (it : List Region). target_at it x) empty in
      let earlier : Holds (target_at few x) = elim (cases_lt x one.first) [
        | inl low ↦ subst Holds (sym (first.outside x (inl low) ∙ nothing)) none
        | inr from ↦ elim (cases_lt one.last x) [
          | inl high ↦ subst Holds (sym (first.outside x (inr high) ∙ nothing)) none
          | inr to ↦ subst Holds (sym (first.inside x from to)) (in_one from to)
        ]
      ] in
      elim (cases_lt x other.first) [
        | inl low ↦ subst Holds (sym (second.outside x (inl low))) earlier
        | inr from ↦ elim (cases_lt other.last x) [
          | inl high ↦ subst Holds (sym (second.outside x (inr high))) earlier
          | inr to ↦ subst Holds (sym (second.inside x from to)) (in_other from to)
        ]
      ]

  pub two-canonical : (five_levels : Bool) → AreCoalesced (stretches all)
      → ((x : ℕ) → one.first ≤ x → x ≤ one.last → IsTrue (is_canonical five_levels x))
      → ((x : ℕ) → other.first ≤ x → x ≤ other.last → IsTrue (is_canonical five_levels x)) → AreStretches five_levels (stretches all)
  two-canonical five_levels coalesced in_one in_other =
      are-stretches five_levels (stretches all) coalesced.ranges
      (λ x. of_two (λ (it : Option (Target Protection)). (it ≡ None → ⊥) → IsTrue (is_canonical five_levels x)) x (λ some. absurd (some refl))
      (λ from to some. in_one x from to) (λ from to some. in_other x from to))

  key-of : (region : Region) (x : ℕ) (target : Target Protection) → region.key < 16 → Some (range_target (stretch_of_region region) x) ≡ Some target → target.kind.key < 16
  key-of region x target few is =
      let same : range_target (stretch_of_region region) x ≡ target = cc in
      subst (λ (it : Target Protection). it.kind.key < 16) same few

  keys-mapped : one.key < 16 → other.key < 16 → (x : ℕ) (target : Target Protection) → target_at all x ≡ Some target → target.kind.key < 16
  keys-mapped in_one in_other x target =
      of_two (λ (it : Option (Target Protection)). it ≡ Some target → target.kind.key < 16) x (λ is. absurd cc)
      (λ from to is. key-of one x target in_one is) (λ from to is. key-of other x target in_other is)

  pub two-keys : (five_levels : Bool) → AreCoalesced (stretches all)
      → ((x : ℕ) → one.first ≤ x → x ≤ one.last → IsTrue (is_canonical five_levels x))
      → ((x : ℕ) → other.first ≤ x → x ≤ other.last → IsTrue (is_canonical five_levels x))
      → one.key < 16 → other.key < 16 → All (λ region. region.key < 16) all
  two-keys five_levels coalesced in_one in_other one_key other_key =
      key-at five_levels all (two-canonical five_levels coalesced in_one in_other) coalesced.apart
      (λ page target is maps. keys-mapped one_key other_key page target maps)
