-- The findings from the roots, root by root.
use Rattle.std.proofs.Common.{◌≡◌, ℕ, ◌⊎◌, inl, inr, List, [], ◌∷◌, ◌++◌, Option, None, refl, sym, ap, ◌∙◌, subst}
use Rattle.paging_model.specs.Entries.{IsFrame}
use Rattle.time_sets.specs.Sets.{has_time}
use Rattle.audit_laws.specs.Firsts.{IsFirst, first_of_two}
use Rattle.audit_laws.specs.Leads.{IsTimeOf}
use Rattle.audit_laws.specs.declared.stale_pages.StalePage.{StalePage}
use Rattle.audit_laws.proofs.FirstLaws.{first-either, first-same}
use Rattle.stale_audit.specs.Facts.{Facts}
use Rattle.stale_audit.specs.Tops.{AreFrames, IsFoundFrom, IsFoundFromSome}

abbrev Root : Type 0
Root = ℕ × List (ℕ × ℕ)

-- the first finding under the roots so far, of which those of `rest` aren't
pub record IsFoundSoFar (facts : Facts) (level : ℕ) (roots rest : List (ℕ × List (ℕ × ℕ))) (first : Option StalePage) : Type 0 where
  pub done : List (ℕ × List (ℕ × ℕ))
  pub all : done ++ rest ≡ roots
  pub frames : AreFrames rest
  pub is_first : IsFirst (IsFoundFromSome facts level done) first

append-one : (done later : List Root) (root : Root) → (done ++ root ∷ []) ++ later ≡ done ++ root ∷ later
append-one [] later root = refl
append-one (x ∷ done) later root = ap (λ list. x ∷ list) (append-one done later root)

append-nil : (done : List Root) → done ++ [] ≡ done
append-nil [] = refl
append-nil (x ∷ done) = ap (λ list. x ∷ list) (append-nil done)

some-front : (facts : Facts) (level : ℕ) (done : List Root) (root : Root) (one : StalePage) → IsFoundFromSome facts level (done ++ root ∷ []) one
    → IsFoundFromSome facts level done one ⊎ IsFoundFrom facts (IsTimeOf (has_time root.1)) level root.0 one
some-front facts level [] root one (inl h) = inr h
some-front facts level [] root one (inr h) = absurd h
some-front facts level (x ∷ done) root one (inl h) = inl (inl h)
some-front facts level (x ∷ done) root one (inr h) = elim (some-front facts level done root one h) [ inl a ↦ inl (inr a) | inr b ↦ inr b ]

some-back : (facts : Facts) (level : ℕ) (done : List Root) (root : Root) (one : StalePage)
    → IsFoundFromSome facts level done one ⊎ IsFoundFrom facts (IsTimeOf (has_time root.1)) level root.0 one
    → IsFoundFromSome facts level (done ++ root ∷ []) one
some-back facts level [] root one (inl h) = absurd h
some-back facts level [] root one (inr h) = inl h
some-back facts level (x ∷ done) root one (inl (inl h)) = inl h
some-back facts level (x ∷ done) root one (inl (inr h)) = inr (some-back facts level done root one (inl h))
some-back facts level (x ∷ done) root one (inr h) = inr (some-back facts level done root one (inr h))

pub roots-begun : (facts : Facts) (level : ℕ) (roots rest : List (ℕ × List (ℕ × ℕ))) → rest ≡ roots → AreFrames roots
    → IsFoundSoFar facts level roots rest None
roots-begun facts level roots rest is frames =
    record { done = []; all = is; frames = subst AreFrames (sym is) frames; is_first = λ one h. absurd h }

pub root-frame : (rest later : List (ℕ × List (ℕ × ℕ))) (root : ℕ × List (ℕ × ℕ)) → rest ≡ root ∷ later → AreFrames rest → IsFrame root.0
root-frame rest later root is frames = let now : AreFrames (root ∷ later) = subst AreFrames is frames in now.0

pub roots-more : (facts : Facts) (level : ℕ) (roots rest later : List (ℕ × List (ℕ × ℕ))) (root : ℕ × List (ℕ × ℕ)) (first found : Option StalePage)
    → rest ≡ root ∷ later → IsFoundSoFar facts level roots rest first → IsFirst (IsFoundFrom facts (IsTimeOf (has_time root.1)) level root.0) found
    → IsFoundSoFar facts level roots later (first_of_two first found)
roots-more facts level roots rest later root first found is so_far next =
    let now : AreFrames (root ∷ later) = subst AreFrames is so_far.frames in
    record {
      done = so_far.done ++ root ∷ [];
      all = append-one so_far.done later root ∙ (ap (λ list. so_far.done ++ list) (sym is) ∙ so_far.all);
      frames = now.1;
      is_first = first-same (λ one. IsFoundFromSome facts level so_far.done one ⊎ IsFoundFrom facts (IsTimeOf (has_time root.1)) level root.0 one)
          (IsFoundFromSome facts level (so_far.done ++ root ∷ [])) (first_of_two first found)
          (some-back facts level so_far.done root) (some-front facts level so_far.done root)
          (first-either (IsFoundFromSome facts level so_far.done) (IsFoundFrom facts (IsTimeOf (has_time root.1)) level root.0) first found so_far.is_first next);
    }

pub roots-done : (facts : Facts) (level : ℕ) (roots rest : List (ℕ × List (ℕ × ℕ))) (first : Option StalePage) → rest ≡ []
    → IsFoundSoFar facts level roots rest first → IsFirst (IsFoundFromSome facts level roots) first
roots-done facts level roots rest first is so_far =
    subst (λ list. IsFirst (IsFoundFromSome facts level list) first)
    (sym (append-nil so_far.done) ∙ (ap (λ list. so_far.done ++ list) (sym is) ∙ so_far.all)) so_far.is_first
