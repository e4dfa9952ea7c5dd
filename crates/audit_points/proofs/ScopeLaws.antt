-- The pairs of processors and PCIDs, one after another.
use Rattle.std.proofs.Common.{◌≡◌, ℕ, suc, ◌+◌, ◌<◌, Bool, true, false, List, [], ◌∷◌, ◌++◌, length, map, take, get_or, refl, sym, ap, ◌∙◌, subst, arith}
use Rattle.std.specs.Prelude.{if◌then◌else◌}
use Rattle.std.specs.List.{All}
use Rattle.std.proofs.lemmas.List.{append_assoc, map-append, take_more}
use Rattle.phys_view.specs.Seen.{Seen}
use Rattle.paging_model.specs.Registers.{pcid_of, settings_of}
use Rattle.paging_model.specs.declared.registers.Machine.{Machine}
use Rattle.version_store.specs.Changes.{KeptChanges}
use Rattle.history_model.specs.History.{History, machine, processors}
use Rattle.history_model.specs.StaleTranslations.{AreFindings, scope, scope_of}
use Rattle.history_model.specs.declared.caches.Finding.{Finding}
use Rattle.cache_rules.specs.Hosts.{Keeping}
use Rattle.cache_rules.specs.Standing.{IsHostOf}
use Rattle.audit_points.specs.Audits.{AddFindings, HostFacts, StandsForAudit, audited_processor, pair_of, pairs_of, pairs_of_hosts, pcids_timed}
use Rattle.audit_points.specs.declared.pcid_times.PcidTimes.{PcidTimes}

append-nil : {X : Type 0} (list : List X) → list ++ [] ≡ list
append-nil [] = refl
append-nil (x ∷ list) = ap (λ rest. x ∷ rest) (append-nil list)

pub add-nothing : (facts : HostFacts) (findings : List Finding) → AddFindings facts [] findings findings
add-nothing facts findings history pairs stand are = subst (λ list. AreFindings history list findings) (sym (append-nil pairs)) are

pub add-more : (facts : HostFacts) (some more : List (ℕ × ℕ)) (old mid new : List Finding) → AddFindings facts some old mid → AddFindings facts more mid new → AddFindings facts (some ++ more) old new
add-more facts some more old mid new first next history pairs stand are =
    subst (λ list. AreFindings history list new) (append_assoc pairs some more) (next history (pairs ++ some) stand (first history pairs stand are))

pub visited-more : (facts : HostFacts) (times : List PcidTimes) (i : ℕ) (d : PcidTimes) (old mid new : List Finding) → i < length times
    → AddFindings facts (map (pair_of facts.host) (pcids_timed (take i times))) old mid
    → AddFindings facts (pair_of facts.host (get_or times i d).pcid ∷ []) mid new
    → AddFindings facts (map (pair_of facts.host) (pcids_timed (take (i + 1) times))) old new
visited-more facts times i d old mid new h first next =
    subst (λ more. AddFindings facts more old new)
    (sym (ap (map (pair_of facts.host)) (ap pcids_timed (take_more times i d h) ∙ map-append (λ (x : PcidTimes). x.pcid) (take i times) (get_or times i d ∷ []))
    ∙ map-append (pair_of facts.host) (pcids_timed (take i times)) ((get_or times i d).pcid ∷ [])))
    (add-more facts (map (pair_of facts.host) (pcids_timed (take i times))) (pair_of facts.host (get_or times i d).pcid ∷ []) old mid new first next)

hosts-append : (all : Bool) (hosts : List Keeping) (host : Keeping) → pairs_of_hosts (hosts ++ host ∷ []) all ≡ pairs_of_hosts hosts all ++ pairs_of host all
hosts-append all [] host = append-nil (pairs_of host all)
hosts-append all (x ∷ hosts) host = ap (λ list. pairs_of x all ++ list) (hosts-append all hosts host) ∙ sym (append_assoc (pairs_of x all) (pairs_of_hosts hosts all) (pairs_of host all))

all-rest : {X : Type 0} (P : X → Type 0) (one : X) (rest : List X) → All P (one ∷ rest) → All P rest
all-rest P one rest all k d h = all (suc k) d (omega (arith, h))

pub hosts-scope : (history : History) (all : Bool) (hosts : List Keeping) → All (λ (host : Keeping). IsHostOf host history) hosts
    → pairs_of_hosts hosts all ≡ scope_of history (map audited_processor hosts) all
hosts-scope history all [] are = refl
hosts-scope history all (host ∷ rest) are =
    ap (λ list. list ++ pairs_of_hosts rest all) (own all)
    ∙ ap (λ list. map (λ c. (host.number, c)) (if all then Rattle.history_model.specs.History.visited_pcids history host.number else pcid_of host.regs ∷ []) ++ list)
    (hosts-scope history all rest (all-rest (λ (one : Keeping). IsHostOf one history) host rest are))
  where
    host-of : IsHostOf host history
    host-of = are 0 host (omega arith)

    own : (b : Bool) → pairs_of host b ≡ map (λ c. (host.number, c)) (if b then Rattle.history_model.specs.History.visited_pcids history host.number else pcid_of host.regs ∷ [])
    own true = ap (map (pair_of host)) host-of.pcids_are
    own false = refl

-- what the audit of a host goes by
abbrev pub host_facts : Seen → KeptChanges → Machine → ℕ → Keeping → HostFacts
host_facts seen kept known now host = record { seen = seen; kept = kept; host = host; settings = settings_of host.regs known; end = now }

-- the findings of the hosts so far
abbrev pub AreFindingsOf : Seen → KeptChanges → List Keeping → Machine → ℕ → Bool → List Keeping → List Finding → Type 0
AreFindingsOf seen kept hosts known now all done findings = (history : History) → StandsForAudit seen kept hosts known now history → AreFindings history (pairs_of_hosts done all) findings

pub hosts-begun : (seen : Seen) (kept : KeptChanges) (hosts : List Keeping) (known : Machine) (now : ℕ) (all : Bool) (findings : List Finding) → findings ≡ [] → AreFindingsOf seen kept hosts known now all [] findings
hosts-begun seen kept hosts known now all findings none history stand = none

pub hosts-more : (seen : Seen) (kept : KeptChanges) (hosts : List Keeping) (known : Machine) (now : ℕ) (all : Bool) (i : ℕ) (d : Keeping) (old new : List Finding) → i < length hosts
    → AreFindingsOf seen kept hosts known now all (take i hosts) old
    → AddFindings (host_facts seen kept known now (get_or hosts i d)) (pairs_of (get_or hosts i d) all) old new
    → AreFindingsOf seen kept hosts known now all (take (i + 1) hosts) new
hosts-more seen kept hosts known now all i d old new h so_far next history stand =
    subst (λ list. AreFindings history list new) (sym (ap (λ list. pairs_of_hosts list all) (take_more hosts i d h) ∙ hosts-append all (take i hosts) (get_or hosts i d)))
    (next history (pairs_of_hosts (take i hosts) all)
    (record {
      host = stand.hosts_are i d h;
      kept = stand.kept_since i d h;
      memory_is = stand.memory_is;
      end_is = stand.end_is;
      settings_is = ap (settings_of (get_or hosts i d).regs) stand.machine_is;
    })
    (so_far history stand))

pub hosts-done : (seen : Seen) (kept : KeptChanges) (hosts done : List Keeping) (known : Machine) (now : ℕ) (all : Bool) (findings : List Finding) → done ≡ hosts
    → AreFindingsOf seen kept hosts known now all done findings
    → (history : History) → StandsForAudit seen kept hosts known now history → AreFindings history (scope history all) findings
hosts-done seen kept hosts done known now all findings is so_far history stand =
    subst (λ list. AreFindings history list findings)
    (ap (λ list. pairs_of_hosts list all) is ∙ (hosts-scope history all hosts stand.hosts_are ∙ ap (λ list. scope_of history list all) stand.processors_are))
    (so_far history stand)
