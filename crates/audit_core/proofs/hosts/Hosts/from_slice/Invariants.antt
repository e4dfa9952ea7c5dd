-- The processors that are left have new numbers, and inserting them leads to the end.
use Rattle.std.proofs.Common.{drop}
use Rattle.audit_core.proofs.StartLaws.{IsUnderway}
use Rattle.audit_core.proofs.hosts.Hosts.from_slice.Given as goal

abbrev pub invariant-loop-processor : goal.invariant-loop-processor
invariant-loop-processor l = IsUnderway l.machine l.hosts (drop l.processor-index l.processors) l.processors
