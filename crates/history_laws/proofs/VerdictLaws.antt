-- A point has one answer.
use Rattle.std.proofs.Common.{◌≡◌, ℕ, ◌<◌, ◌≤◌, ◌⊎◌, inl, inr, List, [], ◌∷◌, sym, ap, ◌∙◌, arith}
use Rattle.history_model.specs.History.{History}
use Rattle.history_model.specs.StaleTranslations.{AreFindings, IsNotAfter, IsWorst}
use Rattle.history_model.specs.declared.caches.Finding.{Finding}

-- findings with the same page, frame and excess
pub record AreAlike (one other : Finding) : Type 0 where
  pub page : one.page ≡ other.page
  pub frame : one.frame ≡ other.frame
  pub excess : one.excess ≡ other.excess

pub not_after-antisym : (one other : Finding) → IsNotAfter one other → IsNotAfter other one → AreAlike one other
not_after-antisym one other (inl a) (inl b) = absurd (omega arith)
not_after-antisym one other (inl a) (inr b) = absurd (omega (arith, b.0))
not_after-antisym one other (inr a) (inl b) = absurd (omega (arith, a.0))
not_after-antisym one other (inr a) (inr b) = by_frame a.1 b.1
  where
    by_frame : (one.frame < other.frame) ⊎ ((one.frame ≡ other.frame) × (one.excess ≤ other.excess))
        → (other.frame < one.frame) ⊎ ((other.frame ≡ one.frame) × (other.excess ≤ one.excess)) → AreAlike one other
    by_frame (inl f) (inl g) = absurd (omega arith)
    by_frame (inl f) (inr g) = absurd (omega (arith, g.0))
    by_frame (inr f) (inl g) = absurd (omega (arith, f.0))
    by_frame (inr f) (inr g) = record { page = a.0; frame = f.0; excess = omega (arith, f.1, g.1) }

abbrev finding_of : ℕ → ℕ → ℕ → ℕ → ℕ → Finding
finding_of cpu pcid page frame excess = record { cpu = cpu; pcid = pcid; page = page; frame = frame; excess = excess }

same_finding : (one other : Finding) → one.cpu ≡ other.cpu → one.pcid ≡ other.pcid → AreAlike one other → one ≡ other
same_finding one other cpu pcid alike =
    ap (λ n. finding_of n one.pcid one.page one.frame one.excess) cpu
    ∙ (ap (λ n. finding_of other.cpu n one.page one.frame one.excess) pcid
    ∙ (ap (λ n. finding_of other.cpu other.pcid n one.frame one.excess) alike.page
    ∙ (ap (λ n. finding_of other.cpu other.pcid other.page n one.excess) alike.frame
    ∙ ap (finding_of other.cpu other.pcid other.page other.frame) alike.excess)))

-- a processor and a PCID have one worst finding
pub worst_is_one : (history : History) (cpu pcid : ℕ) (one other : Finding) → one.cpu ≡ cpu → one.pcid ≡ pcid → other.cpu ≡ cpu → other.pcid ≡ pcid
    → IsWorst history one → IsWorst history other → one ≡ other
worst_is_one history cpu pcid one other cpu_is pcid_is other_cpu other_pcid a b =
    same_finding one other (cpu_is ∙ sym other_cpu) (pcid_is ∙ sym other_pcid)
    (not_after-antisym one other (a.first other (other_cpu ∙ sym cpu_is) (other_pcid ∙ sym pcid_is) b.stale) (b.first one (cpu_is ∙ sym other_cpu) (pcid_is ∙ sym other_pcid) a.stale))

pub findings_are_one : (history : History) (pairs : List (ℕ × ℕ)) (some other : List Finding) → AreFindings history pairs some → AreFindings history pairs other → some ≡ other
findings_are_one history [] some other a b = a ∙ sym b
findings_are_one history (at ∷ rest) some other (inl a) (inl b) = findings_are_one history rest some other a.1 b.1
findings_are_one history (at ∷ rest) some other (inl a) (inr b) = absurd (a.0 b.0 b.3 b.4 b.5.stale)
findings_are_one history (at ∷ rest) some other (inr a) (inl b) = absurd (b.0 a.0 a.3 a.4 a.5.stale)
findings_are_one history (at ∷ rest) some other (inr a) (inr b) =
    a.2 ∙ (ap (λ first. first ∷ a.1) (worst_is_one history at.0 at.1 a.0 b.0 a.3 a.4 b.3 b.4 a.5 b.5)
    ∙ (ap (λ others. b.0 ∷ others) (findings_are_one history rest a.1 b.1 a.6 b.6) ∙ sym b.2))
