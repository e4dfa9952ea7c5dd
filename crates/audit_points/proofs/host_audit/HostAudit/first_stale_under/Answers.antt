use Rattle.std.proofs.Common.{subst, sym, ◌∙◌}
use Rattle.std.specs.Prelude.{◌==◌, not, IfOk, None}
use Rattle.std.proofs.lemmas.Result.{IfOk-weaker}
use Rattle.history_model.specs.History.{History}
use Rattle.audit_laws.specs.Firsts.{IsFirst}
use Rattle.paging_model.specs.Walking.{top_level}
use Rattle.stale_audit.specs.Tops.{IsFoundFromSome}
use Rattle.audit_points.specs.Audits.{HostFacts, HostFactsStandFor, IsStaleHeldFor, facts_in}
use Rattle.audit_points.proofs.HostLaws.{first-under, none-found}
use Rattle.audit_points.proofs.RootTimes.{roots-frames}
use Rattle.audit_points.proofs.host_audit.HostAudit.first_stale_under.Goals as goal

pub returns-then-len-eq0 : goal.returns-then-len-eq0
returns-then-len-eq0 g c =
    first-under c.args.self.now c.args.home c.args.pcid c.args.under.now None c.len.ensures.ordered c.requires.times
    (none-found (facts_in c.args.self.now c.args.home c.args.under.now (not (c.args.under.now.pcid == c.args.pcid))) (top_level c.args.self.now.settings) c.args.under.now.roots.entries
    (sym c.len.ensures.len ∙ c.if-len-eq0.true))

pub audit_roots-requires-clause-roots : goal.audit_roots-requires-clause-roots
audit_roots-requires-clause-roots g c =
    roots-frames c.args.self.now.host c.args.self.now.end c.args.under.now.pcid c.args.under.now.roots c.len.ensures.ordered
    c.requires.times.roots_are c.requires.times.in_use c.requires.auditable.roots

pub returns : goal.returns
returns g c =
    IfOk-weaker c.audit_roots.result
    (IsFirst (IsFoundFromSome (facts_in c.args.self.now c.args.home c.args.under.now (not (c.args.under.now.pcid == c.args.pcid))) (top_level c.args.self.now.settings) c.args.under.now.roots.entries))
    (λ first. (history : History) → HostFactsStandFor c.args.self.now history → IsFirst (IsStaleHeldFor c.args.self.now history c.args.home c.args.pcid c.args.under.now.pcid) first)
    (λ first found. first-under c.args.self.now c.args.home c.args.pcid c.args.under.now first c.len.ensures.ordered c.requires.times found)
    (subst (λ (facts : HostFacts). IfOk c.audit_roots.result
    (IsFirst (IsFoundFromSome (facts_in facts c.args.home c.args.under.now (not (c.args.under.now.pcid == c.args.pcid))) (top_level facts.settings) c.args.under.now.roots.entries)))
    c.self.view_is c.audit_roots.ensures)
