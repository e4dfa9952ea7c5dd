use Rattle.std.proofs.Common.{[], ◌∷◌, ◌++◌, List, Option, sym, ap, ◌∙◌, subst}
use Rattle.audit_laws.specs.Firsts.{IsFirst, finding_at}
use Rattle.audit_laws.specs.declared.stale_pages.StalePage.{StalePage}
use Rattle.cache_rules.specs.Hosts.{root_in}
use Rattle.history_model.specs.History.{History}
use Rattle.history_model.specs.declared.caches.Finding.{Finding}
use Rattle.audit_points.specs.Audits.{AddFindings, HostFacts, HostFactsStandFor, IsStaleHeldForSome, pair_of, pcids_timed}
use Rattle.audit_points.proofs.HostLaws.{add-first, add-no_first, add-none}
use Rattle.audit_points.proofs.host_audit.HostAudit.add_pcid.Goals as goal

pub returns-in_default : goal.returns-in_default
returns-in_default g c =
    add-none c.args.self.now c.args.pcid c.args.findings.now.items
    (sym (c.home.ensures ∙ ap (λ (facts : HostFacts). root_in facts.host.homes c.args.pcid) c.self.view_is) ∙ c.in_default.is)

pub first_stale-requires-clause-home : goal.first_stale-requires-clause-home
first_stale-requires-clause-home g c =
    c.requires.auditable.homes c.args.pcid c.in-Some.home
    (sym (c.home.ensures ∙ ap (λ (facts : HostFacts). root_in facts.host.homes c.args.pcid) c.self.view_is) ∙ c.in-Some.is)

pub returns-in_ok-push : goal.returns-in_ok-push
returns-in_ok-push g c =
    subst (λ (items : List Finding). AddFindings c.args.self.now (pair_of c.args.self.now.host c.args.pcid ∷ []) c.args.findings.now.items items)
    (sym (c.in_ok-push.ensures.items
    ∙ ap (λ (one : Finding). c.args.findings.now.items ++ one ∷ [])
    (c.finding_of.ensures ∙ ap (λ n. finding_at n c.args.pcid c.in-Some-2.first) (c.number.ensures ∙ ap (λ (facts : HostFacts). facts.host.number) c.self.view_is))))
    (add-first c.args.self.now c.in-Some.home c.args.pcid (pcids_timed c.args.times.now) c.args.findings.now.items c.in-Some-2.first c.requires.pcids
    (sym (c.home.ensures ∙ ap (λ (facts : HostFacts). root_in facts.host.homes c.args.pcid) c.self.view_is) ∙ c.in-Some.is)
    (subst (λ (first : Option StalePage). (history : History) → HostFactsStandFor c.args.self.now history
    → IsFirst (IsStaleHeldForSome c.args.self.now history c.in-Some.home c.args.pcid (pcids_timed c.args.times.now)) first) c.in-Some-2.is c.in_ok-first.ensures))

pub returns-in_default-2 : goal.returns-in_default-2
returns-in_default-2 g c =
    add-no_first c.args.self.now c.in-Some.home c.args.pcid (pcids_timed c.args.times.now) c.args.findings.now.items c.requires.pcids
    (sym (c.home.ensures ∙ ap (λ (facts : HostFacts). root_in facts.host.homes c.args.pcid) c.self.view_is) ∙ c.in-Some.is)
    (subst (λ (first : Option StalePage). (history : History) → HostFactsStandFor c.args.self.now history
    → IsFirst (IsStaleHeldForSome c.args.self.now history c.in-Some.home c.args.pcid (pcids_timed c.args.times.now)) first) c.in_default-2.is c.in_ok-first.ensures)
