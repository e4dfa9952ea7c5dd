-- The first of findings, and what is stale at given pages.
use Rattle.std.proofs.Common.{◌≡◌, ℕ, ◌<◌, ◌≤◌, ◌⊎◌, ◌↔◌, inl, inr, Option, Some, None, List, [], ◌∷◌, ◌++◌, refl, sym, ap, ◌∙◌, subst, arith}
use Rattle.paging_model.specs.Counting.{IsIn}
use Rattle.history_model.specs.History.{History}
use Rattle.history_model.specs.StaleTranslations.{AreFindings, IsNotAfter}
use Rattle.history_model.specs.declared.caches.Finding.{Finding}
use Rattle.history_reference.specs.GivenPages.{AreAllPages, AreFindingsAmong, IsFirstFinding, IsStaleAmong}
use Rattle.paging_reference.proofs.Membership.{IsIn-append_left, IsIn-append_right, IsIn-append_cases}

not_after-itself : (one : Finding) → IsNotAfter one one
not_after-itself one = inr (refl, inr (refl, omega arith))

by_frame : (one other last : Finding) → (one.frame < other.frame) ⊎ ((one.frame ≡ other.frame) × (one.excess ≤ other.excess))
    → (other.frame < last.frame) ⊎ ((other.frame ≡ last.frame) × (other.excess ≤ last.excess))
    → (one.frame < last.frame) ⊎ ((one.frame ≡ last.frame) × (one.excess ≤ last.excess))
by_frame one other last (inl a) (inl b) = inl (omega arith)
by_frame one other last (inl a) (inr b) = inl (omega (arith, b.0))
by_frame one other last (inr a) (inl b) = inl (omega (arith, a.0))
by_frame one other last (inr a) (inr b) = inr (a.0 ∙ b.0, omega (arith, a.1, b.1))

not_after-trans : (one other last : Finding) → IsNotAfter one other → IsNotAfter other last → IsNotAfter one last
not_after-trans one other last (inl a) (inl b) = inl (omega arith)
not_after-trans one other last (inl a) (inr b) = inl (omega (arith, b.0))
not_after-trans one other last (inr a) (inl b) = inl (omega (arith, a.0))
not_after-trans one other last (inr a) (inr b) = inr (a.0 ∙ b.0, by_frame one other last a.1 b.1)

-- one finding before others
pub first-alone : (one : Finding) (others : List Finding) → IsFirstFinding (λ finding. IsIn finding others) None
    → IsFirstFinding (λ finding. IsIn finding (one ∷ others)) (Some one)
first-alone one others none = (
  inl refl,
  λ other is_in. elim is_in [
    | inl same ↦ subst (IsNotAfter one) (sym same) (not_after-itself one)
    | inr later ↦ absurd (none other later)
  ],
)

pub first-head : (one other : Finding) (others : List Finding) → IsNotAfter one other
    → IsFirstFinding (λ finding. IsIn finding others) (Some other) → IsFirstFinding (λ finding. IsIn finding (one ∷ others)) (Some one)
first-head one other others before first = (
  inl refl,
  λ last is_in. elim is_in [
    | inl same ↦ subst (IsNotAfter one) (sym same) (not_after-itself one)
    | inr later ↦ not_after-trans one other last before (first.1 last later)
  ],
)

pub first-later : (one other : Finding) (others : List Finding) → IsNotAfter other one
    → IsFirstFinding (λ finding. IsIn finding others) (Some other) → IsFirstFinding (λ finding. IsIn finding (one ∷ others)) (Some other)
first-later one other others before first = (
  inr first.0,
  λ last is_in. elim is_in [
    | inl same ↦ subst (IsNotAfter other) (sym same) before
    | inr later ↦ first.1 last later
  ],
)

-- the first of those that stand in a list is the first of those that have a property, where the list has all of these
pub first-same : (Has : Finding → Type 0) (list : List Finding) (best : Option Finding) → ((finding : Finding) → IsIn finding list ↔ Has finding)
    → IsFirstFinding (λ finding. IsIn finding list) best → IsFirstFinding Has best
first-same Has list None same none = λ one has. none one ((same one).1 has)
first-same Has list (Some one) same first = ((same one).0 first.0, λ other has. first.1 other ((same other).1 has))

-- one page more
pub stale-next : (history : History) (cpu pcid : ℕ) (pages pages' : List ℕ) (next : ℕ) (list here : List Finding)
    → ((page : ℕ) → IsIn page pages' ↔ (IsIn page pages ⊎ (page ≡ next)))
    → ((finding : Finding) → IsIn finding list ↔ IsStaleAmong history cpu pcid pages finding)
    → ((finding : Finding) → IsIn finding here ↔ IsStaleAmong history cpu pcid (next ∷ []) finding)
    → (finding : Finding) → IsIn finding (list ++ here) ↔ IsStaleAmong history cpu pcid pages' finding
stale-next history cpu pcid pages pages' next list here more before now finding = (
  λ is_in. elim (IsIn-append_cases finding list here is_in) [
    | inl old ↦ let is = (before finding).0 old in
        record { of_cpu = is.of_cpu; of_pcid = is.of_pcid; listed = (more finding.page).1 (inl is.listed); stale = is.stale }
    | inr new ↦ let is = (now finding).0 new in
        record { of_cpu = is.of_cpu; of_pcid = is.of_pcid; listed = (more finding.page).1 (inr (only finding.page is.listed)); stale = is.stale }
  ],
  λ is. elim ((more finding.page).0 is.listed) [
    | inl old ↦ IsIn-append_left finding list here
        ((before finding).1 (record { of_cpu = is.of_cpu; of_pcid = is.of_pcid; listed = old; stale = is.stale }))
    | inr same ↦ IsIn-append_right finding list here
        ((now finding).1 (record { of_cpu = is.of_cpu; of_pcid = is.of_pcid; listed = inl same; stale = is.stale }))
  ],
)
  where
    only : (page : ℕ) → IsIn page (next ∷ []) → page ≡ next
    only page (inl same) = same
    only page (inr none) = elim none [ ]

abbrev pair_of : ℕ → ℕ → ℕ × ℕ
pair_of cpu pcid = (cpu, pcid)

same_pair : (at : ℕ × ℕ) (other : Finding) → other.cpu ≡ at.0 → other.pcid ≡ at.1 → pair_of other.cpu other.pcid ≡ at
same_pair at other cpu pcid = ap (λ n. pair_of n other.pcid) cpu ∙ ap (pair_of at.0) pcid

-- where each page that has a stale translation is given, these are the findings
pub findings-whole : (history : History) (pages : List ℕ) (pairs : List (ℕ × ℕ)) (findings : List Finding)
    → AreAllPages history pages pairs → AreFindingsAmong history pages pairs findings → AreFindings history pairs findings
findings-whole history pages [] findings all among = among
findings-whole history pages (at ∷ rest) findings all (inl both) =
    inl (
      λ other cpu pcid stale.
          both.0 other (record { of_cpu = cpu; of_pcid = pcid; listed = all other (inl (same_pair at other cpu pcid)) stale; stale = stale }),
      findings-whole history pages rest findings (λ other is_in. all other (inr is_in)) both.1,
    )
findings-whole history pages (at ∷ rest) findings all (inr more) =
    let first : Finding = more.0 in
    let is : IsStaleAmong history at.0 at.1 pages first = more.3.0 in
    inr (
      first,
      more.1,
      more.2,
      is.of_cpu,
      is.of_pcid,
      record {
        stale = is.stale;
        first = λ other cpu pcid stale.
            let of_cpu : other.cpu ≡ at.0 = cpu ∙ is.of_cpu in
            let of_pcid : other.pcid ≡ at.1 = pcid ∙ is.of_pcid in
            more.3.1 other
            (record { of_cpu = of_cpu; of_pcid = of_pcid; listed = all other (inl (same_pair at other of_cpu of_pcid)) stale; stale = stale });
      },
      findings-whole history pages rest more.1 (λ other is_in. all other (inr is_in)) more.4,
    )
