use Rattle.std.proofs.Common.{◌+◌, drop, subst}
use Rattle.std.proofs.lemmas.List.{drop_more}
use Rattle.audit_core.proofs.StartLaws.{IsUnderway, all_underway, goes_on}
use Rattle.audit_core.proofs.hosts.Hosts.from_slice.Goals as goal

pub loop-processor-preserved : goal.loop-processor-preserved
loop-processor-preserved c =
    goes_on c.args.machine.now c.loop-processor.hosts c.state.new.self _
    (drop (c.loop-processor.processor-index + 1) c.args.processors.now) c.args.processors.now
    (subst (λ list. IsUnderway c.args.machine.now c.loop-processor.hosts list c.args.processors.now)
    (drop_more c.args.processors.now c.loop-processor.processor-index _ c.loop-processor-test.true) c.loop-processor.invariant)
    c.in_ok-state.ensures.ok

pub returns-clause-processors : goal.returns-clause-processors
returns-clause-processors c =
    all_underway c.args.machine.now c.loop-processor.hosts c.args.processors.now c.loop-processor.processor-index
    c.loop-processor-test.false c.loop-processor.invariant

pub returns-clause-new : goal.returns-clause-new
returns-clause-new c = c.loop-processor.invariant.hosts_are

pub returns-clause-distinct : goal.returns-clause-distinct
returns-clause-distinct c = c.loop-processor.invariant.distinct
