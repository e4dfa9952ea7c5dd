use Rattle.std.proofs.Common.{List, subst}
use Rattle.std.proofs.lemmas.List.{take_all}
use Rattle.history_model.specs.History.{History}
use Rattle.audit_laws.specs.Firsts.{IsFirst}
use Rattle.audit_points.specs.Audits.{HostFactsStandFor, IsStaleHeldFor, IsStaleHeldForSome, pcids_timed}
use Rattle.audit_points.specs.declared.pcid_times.PcidTimes.{PcidTimes}
use Rattle.audit_points.proofs.HostLaws.{first-more}
use Rattle.audit_points.proofs.host_audit.HostAudit.first_stale.Goals as goal

pub loop-under-init : goal.loop-under-init
loop-under-init g c = record { so_far = λ history stand one h. h }

pub loop-under-preserved : goal.loop-under-preserved
loop-under-preserved g c = record {
  so_far = rw c.first_of_two-first.ensures
      (first-more c.args.self.now c.args.home c.args.pcid c.args.times.now c.loop-under.under-index c.under-item.result c.loop-under.first c.in_ok-found.found c.loop-under-test.true
      c.loop-under.invariant.so_far
      (subst (λ (one : PcidTimes). (history : History) → HostFactsStandFor c.args.self.now history → IsFirst (IsStaleHeldFor c.args.self.now history c.args.home c.args.pcid one.pcid) c.in_ok-found.found)
      c.under-item.is c.in_ok-found.ensures));
}

pub returns : goal.returns
returns g c = subst (λ (list : List PcidTimes). (history : History) → HostFactsStandFor c.args.self.now history → IsFirst (IsStaleHeldForSome c.args.self.now history c.args.home c.args.pcid (pcids_timed list)) c.loop-under.first)
    (take_all c.loop-under.under-index c.args.times.now c.loop-under-test.false) c.loop-under.invariant.so_far
