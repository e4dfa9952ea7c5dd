use Rattle.paging_model.specs.Walking.{top_level}
use Rattle.stale_audit.proofs.RootLaws.{root-frame, roots-begun, roots-done, roots-more}
use Rattle.stale_audit.proofs.SteadyTableLaws.{known-none}
use Rattle.stale_audit.proofs.tops.audit_roots.Goals as goal

pub loop-root-init : goal.loop-root-init
loop-root-init g c = record {
  found = roots-begun c.args.point.now (top_level c.args.point.now.settings) c.args.roots.now.entries c.into_iter-root-iterator.result
      c.into_iter-root-iterator.ensures.into_iter_gives.0 c.requires.roots;
  known = known-none c.args.point.now c.new-known.result c.new-known.ensures.empty;
}

pub audit_top-requires-clause-root : goal.audit_top-requires-clause-root
audit_top-requires-clause-root g c =
    root-frame c.loop-root.root-iterator c.next.new.self (c.in-Some.root.now, c.in-Some.in_use.now) c.in-Some.ensures.steps c.loop-root.invariant.found.frames

pub loop-root-preserved : goal.loop-root-preserved
loop-root-preserved g c = record {
  found = rw c.first_of_two-first.ensures
      (roots-more c.args.point.now (top_level c.args.point.now.settings) c.args.roots.now.entries c.loop-root.root-iterator c.next.new.self
      (c.in-Some.root.now, c.in-Some.in_use.now) c.loop-root.first c.in_ok-found.found c.in-Some.ensures.steps c.loop-root.invariant.found c.in_ok-found.ensures.first);
  known = c.audit_top.ensures.known;
}

pub returns : goal.returns
returns g c =
    roots-done c.args.point.now (top_level c.args.point.now.settings) c.args.roots.now.entries c.loop-root.root-iterator c.loop-root.first
    c.in-None.ensures.steps.0 c.loop-root.invariant.found
