use Rattle.std.proofs.Common.{arith}
use Rattle.std.proofs.lemmas.List.{drop_all}
use Rattle.elf_core.proofs.Scanning.{extents-drop, placed_at, scanned-begin, scanned-before, scanned-after, scanned-cut, scanned-none}
use Rattle.elf_core.proofs.stretches.stretch_by_scan.Goals as goal

pub loop-segment-init : goal.loop-segment-init
loop-segment-init c = scanned-begin _ _ (omega arith)

pub overflow_sub-end : goal.overflow_sub-end
overflow_sub-end c = c.loop-segment.invariant.near

pub overflow_sub-end-2 : goal.overflow_sub-end-2
overflow_sub-end-2 c = c.loop-segment.invariant.near

pub returns-then-at-segment-2 : goal.returns-then-at-segment-2
returns-then-at-segment-2 c =
    let placed = placed_at c.args.segments.now c.loop-segment.segment-index _ c.loop-segment-test.true c.requires in
    let is = extents-drop c.args.segments.now c.loop-segment.segment-index _ c.loop-segment-test.true in
    scanned-cut _ _ _ _ _ _ _ _ is placed c.if-at-segment.false c.if-at-segment-2.true c.min.ensures c.loop-segment.invariant

pub loop-segment-preserved : goal.loop-segment-preserved
loop-segment-preserved c =
    let placed = placed_at c.args.segments.now c.loop-segment.segment-index _ c.loop-segment-test.true c.requires in
    let is = extents-drop c.args.segments.now c.loop-segment.segment-index _ c.loop-segment-test.true in
    let was = rw is at c.loop-segment.invariant in
    elim c.if-at-segment.branch [
      | goal.then-at-segment w ↦ rw (w.end-is, w.min-end.ensures) (scanned-after _ _ _ _ _ _ placed w.if-at-segment.true was)
      | goal.else-at-segment+else-at-segment-2 w ↦ rw w.end-is (scanned-before _ _ _ _ _ _ (omega arith) was)
    ]

pub returns : goal.returns
returns c =
    let is = drop_all c.loop-segment.segment-index c.args.segments.now c.loop-segment-test.false in
    let was = rw is at c.loop-segment.invariant in
    rw c.max.ensures (scanned-none _ _ _ _ (omega arith) was c.requires)
