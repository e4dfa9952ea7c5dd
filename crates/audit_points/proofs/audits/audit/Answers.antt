use Rattle.std.proofs.Common.{subst, take}
use Rattle.std.proofs.lemmas.List.{take_all}
use Rattle.cache_rules.specs.Hosts.{Keeping}
use Rattle.audit_points.specs.Audits.{AddFindings, pairs_of}
use Rattle.audit_points.proofs.ScopeLaws.{host_facts, hosts-begun, hosts-done, hosts-more}
use Rattle.audit_points.proofs.audits.audit.Goals as goal

pub loop-host-init : goal.loop-host-init
loop-host-init g c = record { so_far = hosts-begun c.args.view.now c.args.store.now c.args.hosts.now c.args.machine.now c.args.now c.args.all c.new-findings.result.items c.new-findings.ensures.items }

pub loop-host-preserved : goal.loop-host-preserved
loop-host-preserved g c = record {
  so_far = hosts-more c.args.view.now c.args.store.now c.args.hosts.now c.args.machine.now c.args.now c.args.all c.loop-host.host-index c.host-item.result
      c.loop-host.findings.items c.add_findings.new.findings.items c.loop-host-test.true c.loop-host.invariant.so_far
      (subst (λ (host : Keeping). AddFindings (host_facts c.args.view.now c.args.store.now c.args.machine.now c.args.now host) (pairs_of host c.args.all) c.loop-host.findings.items c.add_findings.new.findings.items)
      c.host-item.is (rw (c.settings.ensures, c.regs.ensures) at c.in_ok-add_findings.ensures));
}

pub returns : goal.returns
returns g c = rw c.from_vec.ensures
    (hosts-done c.args.view.now c.args.store.now c.args.hosts.now (take c.loop-host.host-index c.args.hosts.now) c.args.machine.now c.args.now c.args.all c.loop-host.findings.items
    (take_all c.loop-host.host-index c.args.hosts.now c.loop-host-test.false) c.loop-host.invariant.so_far)
