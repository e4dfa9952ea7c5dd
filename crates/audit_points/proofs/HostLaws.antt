-- What is stale under a PCID of a processor, by the PCIDs under which it is held.
use Rattle.std.proofs.Common.{◌≡◌, ℕ, ◌+◌, ◌<◌, ◌⊎◌, inl, inr, Bool, true, false, List, [], ◌∷◌, ◌++◌, length, map, take, get_or, Option, Some, None, refl, sym, ap, ◌∙◌, subst, arith}
use Rattle.std.specs.Prelude.{◌==◌, not, if◌then◌else◌}
use Rattle.std.specs.BTreeMap.{IsOrdered}
use Rattle.std.specs.Ordering.{nat_cmp}
use Rattle.std.proofs.lemmas.Bool.Decides.{nat_tests}
use Rattle.std.proofs.lemmas.List.{map-append, take_more}
use Rattle.paging_model.specs.Counting.{IsIn}
use Rattle.paging_model.specs.Walking.{top_level}
use Rattle.history_model.specs.History.{History, last_root, visited_pcids}
use Rattle.history_model.specs.StaleTranslations.{AreFindings, IsWorst, NoneStale}
use Rattle.history_model.specs.declared.caches.Finding.{Finding}
use Rattle.audit_laws.specs.Firsts.{IsFirst, IsStaleUnder, finding_at, first_of_two}
use Rattle.audit_laws.specs.declared.stale_pages.StalePage.{StalePage}
use Rattle.audit_laws.proofs.FirstLaws.{first-either, first-none, first-same, first-worst}
use Rattle.cache_rules.specs.Hosts.{home_pcids, root_in}
use Rattle.stale_audit.specs.Facts.{AreTimely, Facts}
use Rattle.stale_audit.specs.Tops.{IsFoundFromSome}
use Rattle.audit_points.specs.Audits.{AddFindings, AreTimesOf, HostFacts, HostFactsStandFor, IsAuditable, IsStaleHeldFor, IsStaleHeldForSome, facts_in, facts_with_home, pair_of, pcids_timed}
use Rattle.audit_points.specs.StandingFacts.{FactsStandFor, IsStaleHeldUnder, IsStaleUnderSome}
use Rattle.audit_points.specs.declared.pcid_times.PcidTimes.{PcidTimes}
use Rattle.audit_points.proofs.FoundLaws.{stale-iff}
use Rattle.audit_points.proofs.PointLaws.{some-stale, stale-some}
use Rattle.audit_points.proofs.ReadyLaws.{timely-is}
use Rattle.audit_points.proofs.RootTimes.{roots-under}

module _ (facts : HostFacts) (home : ℕ) (times : PcidTimes) (only_global : Bool) where
  pub point-timely : IsAuditable facts.host facts.end → AreTimesOf facts.host facts.end times → AreTimely (facts_in facts home times only_global)
  point-timely auditable are = timely-is (facts_in facts home times only_global) auditable.order are.clear_is are.set_is

  facts-stand : (history : History) → HostFactsStandFor facts history → AreTimesOf facts.host facts.end times → FactsStandFor (facts_in facts home times only_global) history
  facts-stand history stand are = record {
    host = stand.host;
    kept = stand.kept;
    memory_is = stand.memory_is;
    end_is = stand.end_is;
    settings_is = stand.settings_is;
    pcid = are.fits;
    clear_is = are.clear_is;
    set_is = are.set_is;
  }

-- what is held for a PCID doesn't depend on the times
held-for : (facts : HostFacts) (history : History) (home c : ℕ) (times : PcidTimes) (one : StalePage)
    → IsStaleHeldUnder (facts_in facts home times (not (times.pcid == c))) history (top_level facts.settings) one → IsStaleHeldFor facts history home c times.pcid one
held-for facts history home c times one s =
    record { page = s.page; k = s.k; held = s.held; leaf = s.leaf; may_hold = s.may_hold; asked = s.asked; exceeds = s.exceeds; frame = s.frame; excess = s.excess }

for-held : (facts : HostFacts) (history : History) (home c : ℕ) (times : PcidTimes) (one : StalePage)
    → IsStaleHeldFor facts history home c times.pcid one → IsStaleHeldUnder (facts_in facts home times (not (times.pcid == c))) history (top_level facts.settings) one
for-held facts history home c times one s =
    record { page = s.page; k = s.k; held = s.held; leaf = s.leaf; may_hold = s.may_hold; asked = s.asked; exceeds = s.exceeds; frame = s.frame; excess = s.excess }

-- the first one that the roots of a PCID lead to is the first one that is held under it
pub first-under : (facts : HostFacts) (home c : ℕ) (times : PcidTimes) (first : Option StalePage) → IsOrdered nat_cmp times.roots → AreTimesOf facts.host facts.end times
    → IsFirst (IsFoundFromSome (facts_in facts home times (not (times.pcid == c))) (top_level facts.settings) times.roots.entries) first
    → (history : History) → HostFactsStandFor facts history → IsFirst (IsStaleHeldFor facts history home c times.pcid) first
first-under facts home c times first ordered are is_first history stand =
    let all = facts_in facts home times (not (times.pcid == c)) in
    let stands = facts-stand facts home times (not (times.pcid == c)) history stand are in
    first-same (IsFoundFromSome all (top_level facts.settings) times.roots.entries) (IsStaleHeldFor facts history home c times.pcid) first
    (λ one found. held-for facts history home c times one ((stale-iff all history (top_level facts.settings) one stands refl).1
    ((roots-under all history (top_level facts.settings) one stands refl times.roots ordered are.roots_are).0 found)))
    (λ one held. (roots-under all history (top_level facts.settings) one stands refl times.roots ordered are.roots_are).1
    ((stale-iff all history (top_level facts.settings) one stands refl).0 (for-held facts history home c times one held)))
    is_first

-- where there is no root nothing is found
pub none-found : (facts : Facts) (level : ℕ) (entries : List (ℕ × List (ℕ × ℕ))) → length entries ≡ 0 → IsFirst (IsFoundFromSome facts level entries) None
none-found facts level [] h one found = absurd found
none-found facts level (x ∷ entries) h one found = absurd (omega (arith, h))

-- one PCID more
some-front : (facts : HostFacts) (history : History) (home c : ℕ) (done : List ℕ) (under : ℕ) (one : StalePage)
    → IsStaleHeldForSome facts history home c (done ++ under ∷ []) one → IsStaleHeldForSome facts history home c done one ⊎ IsStaleHeldFor facts history home c under one
some-front facts history home c [] under one (inl h) = inr h
some-front facts history home c [] under one (inr h) = absurd h
some-front facts history home c (x ∷ done) under one (inl h) = inl (inl h)
some-front facts history home c (x ∷ done) under one (inr h) = elim (some-front facts history home c done under one h) [ inl a ↦ inl (inr a) | inr b ↦ inr b ]

some-back : (facts : HostFacts) (history : History) (home c : ℕ) (done : List ℕ) (under : ℕ) (one : StalePage)
    → IsStaleHeldForSome facts history home c done one ⊎ IsStaleHeldFor facts history home c under one → IsStaleHeldForSome facts history home c (done ++ under ∷ []) one
some-back facts history home c [] under one (inl h) = absurd h
some-back facts history home c [] under one (inr h) = inl h
some-back facts history home c (x ∷ done) under one (inl (inl h)) = inl h
some-back facts history home c (x ∷ done) under one (inl (inr h)) = inr (some-back facts history home c done under one (inl h))
some-back facts history home c (x ∷ done) under one (inr h) = inr (some-back facts history home c done under one (inr h))

abbrev IsFirstSoFar : HostFacts → ℕ → ℕ → List PcidTimes → Option StalePage → Type 0
IsFirstSoFar facts home c done first = (history : History) → HostFactsStandFor facts history → IsFirst (IsStaleHeldForSome facts history home c (pcids_timed done)) first

pub first-more : (facts : HostFacts) (home c : ℕ) (times : List PcidTimes) (i : ℕ) (d : PcidTimes) (first found : Option StalePage) → i < length times
    → ((history : History) → HostFactsStandFor facts history → IsFirst (IsStaleHeldForSome facts history home c (pcids_timed (take i times))) first)
    → ((history : History) → HostFactsStandFor facts history → IsFirst (IsStaleHeldFor facts history home c (get_or times i d).pcid) found)
    → (history : History) → HostFactsStandFor facts history → IsFirst (IsStaleHeldForSome facts history home c (pcids_timed (take (i + 1) times))) (first_of_two first found)
first-more facts home c times i d first found h so_far next history stand =
    let done = pcids_timed (take i times) in
    let under = (get_or times i d).pcid in
    subst (λ list. IsFirst (IsStaleHeldForSome facts history home c list) (first_of_two first found))
    (sym (ap pcids_timed (take_more times i d h) ∙ map-append (λ (x : PcidTimes). x.pcid) (take i times) (get_or times i d ∷ [])))
    (first-same (λ one. IsStaleHeldForSome facts history home c done one ⊎ IsStaleHeldFor facts history home c under one) (IsStaleHeldForSome facts history home c (done ++ under ∷ [])) (first_of_two first found)
    (some-back facts history home c done under) (some-front facts history home c done under)
    (first-either (IsStaleHeldForSome facts history home c done) (IsStaleHeldFor facts history home c under) first found (so_far history stand) (next history stand)))

-- what is stale is held under one of the PCIDs
module _ (facts : HostFacts) (history : History) (home c : ℕ) (stand : HostFactsStandFor facts history) (home_is : root_in facts.host.homes c ≡ Some home) where
  root-is : last_root history facts.host.number c ≡ Some home
  root-is = sym (stand.host.homes_are c) ∙ home_is

  home-in : (homes : List (ℕ × ℕ)) → root_in homes c ≡ Some home → IsIn c (map (λ (one : ℕ × ℕ). one.0) homes)
  home-in [] h = absurd (cc)
  home-in (one ∷ rest) h = by_test (one.0 == c) refl h (home-in rest)
    where
      by_test : (b : Bool) → (one.0 == c) ≡ b → (if b then Some one.1 else root_in rest c) ≡ Some home → (root_in rest c ≡ Some home → IsIn c (map (λ (x : ℕ × ℕ). x.0) rest)) → IsIn c (map (λ (x : ℕ × ℕ). x.0) (one ∷ rest))
      by_test true e q later = inl (grind (arith, nat_tests, e))
      by_test false e q later = inr (later q)

  in-some : (list : List ℕ) (under : ℕ) (one : StalePage) → IsIn under list → IsStaleHeldFor facts history home c under one → IsStaleHeldForSome facts history home c list one
  in-some [] under one i s = absurd i
  in-some (x ∷ list) under one (inl e) s = inl (subst (λ u. IsStaleHeldFor facts history home c u one) e s)
  in-some (x ∷ list) under one (inr i) s = inr (in-some list under one i s)

  record IsHeldForOne (list : List ℕ) (one : StalePage) : Type 0 where
    pub under : ℕ
    pub among : IsIn under list
    pub stale : IsStaleHeldFor facts history home c under one

  some-in : (list : List ℕ) (one : StalePage) → IsStaleHeldForSome facts history home c list one → IsHeldForOne list one
  some-in [] one h = absurd h
  some-in (x ∷ list) one (inl h) = record { under = x; among = inl refl; stale = h }
  some-in (x ∷ list) one (inr h) = let later : IsHeldForOne list one = some-in list one h in record { under = later.under; among = inr later.among; stale = later.stale }

  visited-is : IsIn c (visited_pcids history facts.host.number)
  visited-is = subst (IsIn c) stand.host.pcids_are (home-in facts.host.homes home_is)

  pub first-stale : (first : Option StalePage) → IsFirst (IsStaleHeldForSome facts history home c (home_pcids facts.host)) first → IsFirst (IsStaleUnder history facts.host.number c) first
  first-stale first is_first =
      first-same (IsStaleHeldForSome facts history home c (home_pcids facts.host)) (IsStaleUnder history facts.host.number c) first
      (λ one h.
      let held : IsHeldForOne (home_pcids facts.host) one = some-in (home_pcids facts.host) one h in
      some-stale (facts_with_home facts home) history c one stand.host.is_known stand.settings_is root-is
      (record { under = held.under; visited = inr (subst (IsIn held.under) stand.host.pcids_are held.among); stale = held.stale }))
      (λ one stale.
      let some : IsStaleUnderSome (facts_with_home facts home) history c one = stale-some (facts_with_home facts home) history c one stand.host.is_known stand.settings_is root-is stale in
      in-some (home_pcids facts.host) some.under one
      (subst (IsIn some.under) (sym stand.host.pcids_are) (elim some.visited [ inl own ↦ subst (λ u. IsIn u (visited_pcids history facts.host.number)) (sym own) visited-is | inr in_list ↦ in_list ]))
      some.stale)
      is_first

-- one pair more
pub none-more : (history : History) (pairs : List (ℕ × ℕ)) (at : ℕ × ℕ) (findings : List Finding) → NoneStale history at.0 at.1 → AreFindings history pairs findings → AreFindings history (pairs ++ at ∷ []) findings
none-more history [] at findings none are = inl (none, are)
none-more history (x ∷ pairs) at findings none (inl h) = inl (h.0, none-more history pairs at findings none h.1)
none-more history (x ∷ pairs) at findings none (inr h) =
    inr (h.0, h.1, h.2, h.3, h.4, h.5, none-more history pairs at h.1 none h.6)

pub worst-more : (history : History) (pairs : List (ℕ × ℕ)) (at : ℕ × ℕ) (findings : List Finding) (finding : Finding) → finding.cpu ≡ at.0 → finding.pcid ≡ at.1 → IsWorst history finding
    → AreFindings history pairs findings → AreFindings history (pairs ++ at ∷ []) (findings ++ finding ∷ [])
worst-more history [] at findings finding cpu pcid worst are = inr (finding, [], ap (λ list. list ++ finding ∷ []) are, cpu, pcid, worst, refl)
worst-more history (x ∷ pairs) at findings finding cpu pcid worst (inl h) = inl (h.0, worst-more history pairs at findings finding cpu pcid worst h.1)
worst-more history (x ∷ pairs) at findings finding cpu pcid worst (inr h) =
    inr (h.0, h.1 ++ finding ∷ [], ap (λ list. list ++ finding ∷ []) h.2, h.3, h.4, h.5, worst-more history pairs at h.1 finding cpu pcid worst h.6)

no-home : (root : Option ℕ) (home : ℕ) → root ≡ None → root ≡ Some home → ⊥
no-home root home none some = absurd (cc)

-- where the processor wasn't in a PCID, nothing is stale under it
pub add-none : (facts : HostFacts) (c : ℕ) (findings : List Finding) → root_in facts.host.homes c ≡ None → AddFindings facts (pair_of facts.host c ∷ []) findings findings
add-none facts c findings none history pairs stand are =
    none-more history pairs (facts.host.number, c) findings
    (λ other cpu pcid stale.
    no-home (last_root history facts.host.number c) stale.root (sym (stand.host.homes_are c) ∙ none)
    (ap (λ p. last_root history p c) (sym cpu) ∙ (ap (λ d. last_root history other.cpu d) (sym pcid) ∙ stale.is_root)))
    are

pub add-first : (facts : HostFacts) (home c : ℕ) (pcids : List ℕ) (findings : List Finding) (first : StalePage) → pcids ≡ home_pcids facts.host → root_in facts.host.homes c ≡ Some home
    → ((history : History) → HostFactsStandFor facts history → IsFirst (IsStaleHeldForSome facts history home c pcids) (Some first))
    → AddFindings facts (pair_of facts.host c ∷ []) findings (findings ++ finding_at facts.host.number c first ∷ [])
add-first facts home c pcids findings first pcids_are home_is is_first history pairs stand are =
    worst-more history pairs (facts.host.number, c) findings (finding_at facts.host.number c first) refl refl
    (first-worst history facts.host.number c first
    (first-stale facts history home c stand home_is (Some first) (subst (λ list. IsFirst (IsStaleHeldForSome facts history home c list) (Some first)) pcids_are (is_first history stand))))
    are

pub add-no_first : (facts : HostFacts) (home c : ℕ) (pcids : List ℕ) (findings : List Finding) → pcids ≡ home_pcids facts.host → root_in facts.host.homes c ≡ Some home
    → ((history : History) → HostFactsStandFor facts history → IsFirst (IsStaleHeldForSome facts history home c pcids) None)
    → AddFindings facts (pair_of facts.host c ∷ []) findings findings
add-no_first facts home c pcids findings pcids_are home_is is_first history pairs stand are =
    none-more history pairs (facts.host.number, c) findings
    (first-none history facts.host.number c
    (first-stale facts history home c stand home_is None (subst (λ list. IsFirst (IsStaleHeldForSome facts history home c list) None) pcids_are (is_first history stand))))
    are
