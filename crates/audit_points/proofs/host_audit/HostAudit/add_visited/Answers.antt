use Rattle.std.proofs.Common.{[], ◌∷◌, List, map, ap, ◌∙◌, subst, ℕ}
use Rattle.std.proofs.lemmas.List.{take_all}
use Rattle.audit_points.specs.Audits.{AddFindings, pair_of, pcids_timed}
use Rattle.audit_points.specs.declared.pcid_times.PcidTimes.{PcidTimes}
use Rattle.audit_points.proofs.ScopeLaws.{add-nothing, visited-more}
use Rattle.audit_points.proofs.host_audit.HostAudit.add_visited.Goals as goal

pub loop-one-init : goal.loop-one-init
loop-one-init g c = record { added = add-nothing c.args.self.now c.args.findings.now.items }

pub loop-one-preserved : goal.loop-one-preserved
loop-one-preserved g c = record {
  added = visited-more c.args.self.now c.args.times.now c.loop-one.one-index c.one-item.result c.args.findings.now.items c.loop-one.findings.items c.add_pcid.new.findings.items
      c.loop-one-test.true c.loop-one.invariant.added
      (subst (λ (one : PcidTimes). AddFindings c.args.self.now (pair_of c.args.self.now.host one.pcid ∷ []) c.loop-one.findings.items c.add_pcid.new.findings.items) c.one-item.is c.in_ok-add_pcid.ensures);
}

pub returns : goal.returns
returns g c =
    subst (λ (pcids : List ℕ). AddFindings c.args.self.now (map (pair_of c.args.self.now.host) pcids) c.args.findings.now.items c.loop-one.findings.items)
    (ap pcids_timed (take_all c.loop-one.one-index c.args.times.now c.loop-one-test.false) ∙ c.requires.pcids) c.loop-one.invariant.added
